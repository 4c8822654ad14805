use Rattle.command_core.proofs.Common.{◌∙◌, ap, call_of, side_of, sym}
use Rattle.std.specs.Cmp.Derive.{both_true}
use Rattle.command_core.specs.Foreseen.{lists_none, has_count, change_of}
use Rattle.command_core.proofs.Foreseen.{foreseen-decision}
use Rattle.command_core.proofs.bearing_out.bears_out.Goals as goal

pub returns-then-lists_none-clause-decides : goal.returns-then-lists_none-clause-decides
returns-then-lists_none-clause-decides c = λ counts cpu held place settled foreseen.
    let side = side_of c.args.side.now in
    let change = change_of c.args.answer.now in
    foreseen-decision c.args.config.now cpu c.args.command.now held side place c.args.answer.now c.granules.ensures.most settled foreseen
    (both_true {s = lists_none side (call_of c.args.command.now)} {t = has_count c.args.config.now.granules side change}
    (sym c.lists_none.ensures ∙ c.if-lists_none.true)
    (sym (c.has_count.ensures ∙ ap (λ n. has_count n side change) c.granules.ensures.count) ∙ counts))
