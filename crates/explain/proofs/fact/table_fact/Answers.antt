-- An entry keeps the table where it is.
use Rattle.explain.proofs.Common.{◌∙◌, ◌≡◌, false, state_of, sym, true}
use Rattle.rmm_spec.specs.Walk.{table_number}
use Rattle.explain.proofs.Removals.{left_there}
use Rattle.explain.proofs.fact.table_fact.Goals as goal

pub unreachable-requires : goal.unreachable-requires
unreachable-requires c =
    let none = rw c.in_default.is at c.entry_met.ensures.none in
    let there = rw (c.in_the_way-wanted.ensures, c.entry_at.ensures, c.table_number-number.ensures.number) at none in
    let left = left_there c.args.removal (state_of c.args.machine.now) c.args.rd c.args.level (table_number c.args.level c.args.ipa) there in
    let bad : false ≡ true = sym c.requires ∙ left in cc
