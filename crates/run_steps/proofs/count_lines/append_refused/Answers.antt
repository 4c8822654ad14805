-- One line more.
use Rattle.std.proofs.Common.{◌++◌, ℕ, List, map, Some, sym, ◌∙◌, ap}
use Rattle.std.proofs.lemmas.List.{append-nil, take_all}
use Rattle.std.proofs.lemmas.Option.{slice_get-get_or}
use Rattle.rmm_spec.specs.declared.condition.Condition.{Condition}
use Rattle.run_steps.specs.CountLines.{answer_lines}
use Rattle.run_steps.specs.Places.{conditions}
use Rattle.run_steps.proofs.CountTexts.{answer_lines-more, appended_on}
use Rattle.run_steps.proofs.count_lines.append_refused.Goals as goal

pub loop-i-init : goal.loop-i-init
loop-i-init c = sym (append-nil c.args.out.now.items)

pub loop-i-preserved : goal.loop-i-preserved
loop-i-preserved c =
    let more = answer_lines-more c.args.command.now c.args.counts.now c.args.function conditions c.loop-i.i _
    (slice_get-get_or conditions c.loop-i.i _ c.loop-i-test.true) in
    appended_on c.args.out.now.items _ _ c.loop-i.out.items c.append_line.new.out.items c.loop-i.invariant
    (rw (c.condition_name.ensures, c.count-count.ensures) at c.in_ok-append_line.ensures)
    ∙ ap (λ (t : List ℕ). c.args.out.now.items ++ t) (sym more)

pub returns : goal.returns
returns c =
    c.loop-i.invariant
    ∙ ap (λ (xs : List Condition). c.args.out.now.items ++ answer_lines c.args.command.now c.args.counts.now c.args.function (map Some xs))
    (take_all c.loop-i.i conditions c.loop-i-test.false)
