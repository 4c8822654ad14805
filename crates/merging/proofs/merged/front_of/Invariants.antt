use Rattle.merging.proofs.Common.{◌≤◌, known_front, length, take}
use Rattle.merging.specs.Merge.{AreReturns}
use Rattle.merging.proofs.merged.front_of.Given as goal

abbrev pub invariant-loop-stamp : goal.invariant-loop-stamp
invariant-loop-stamp l = record {
  within : l.stamp ≤ length (known_front l.table.slots);
  are : AreReturns l.returns (take l.stamp (known_front l.table.slots));
}
