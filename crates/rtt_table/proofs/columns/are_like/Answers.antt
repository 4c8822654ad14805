use Rattle.std.proofs.Common.{sym, ap, ◌∙◌}
use Rattle.rmm_spec.specs.Walk.{is_unlike}
use Rattle.rtt_table.specs.Columns.{entry_from}
use Rattle.rtt_table.proofs.Copies.{none_of_copies}
use Rattle.rtt_table.proofs.columns.are_like.Goals as goal

pub returns-then-not-passes : goal.returns-then-not-passes
returns-then-not-passes c =
    let first = c.args.first in
    let fails = sym (c.if-not-passes.ensures ∙ ap (is_unlike first) c.entry_from.ensures) in
    λ holds. none_of_copies c.kind_of-same.result (λ kind. is_unlike first (entry_from kind 0)) fails c.args.kinds.now (c.are_kind.ensures.0 holds)
