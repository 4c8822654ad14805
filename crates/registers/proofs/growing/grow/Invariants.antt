-- Those so far were looked at.
use Rattle.std.proofs.Common.{◌≤◌, length}
use Rattle.registers.specs.Growing.{GrowsByEach, Keeps}
use Rattle.registers.proofs.Firsts.{OfFirst}
use Rattle.registers.proofs.growing.grow.Given as goal

abbrev pub invariant-loop-index : goal.invariant-loop-index
invariant-loop-index l = record {
  kept : Keeps l.initial.begun.items l.begun.items;
  within : l.index ≤ length l.begun.items;
  grown : OfFirst (GrowsByEach l.history.recorded.events l.opens l.begun.items) l.begun.items l.index;
}
