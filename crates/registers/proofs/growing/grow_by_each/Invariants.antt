-- The open calls so far were looked at.
use Rattle.registers.specs.Growing.{GrowsBy, Keeps}
use Rattle.registers.proofs.Firsts.{OfFirst}
use Rattle.registers.proofs.growing.grow_by_each.Given as goal

abbrev pub invariant-loop-other : goal.invariant-loop-other
invariant-loop-other l = record {
  kept : Keeps l.initial.begun.items l.begun.items;
  grown : OfFirst (λ one. GrowsBy l.history.recorded.events one l.begun.items l.one) l.opens l.other-index;
}
