use Rattle.merging.proofs.Common.{◌≡◌, ◌≤◌, known_front, lasts_in, length, no_lasts, take}
use Rattle.merging.specs.Naming.{names_of, lasts_after}
use Rattle.merging.proofs.naming.names_known.Given as goal

abbrev pub invariant-loop-stamp : goal.invariant-loop-stamp
invariant-loop-stamp l = record {
  within : l.stamp ≤ length (known_front l.table.slots);
  names : l.names ≡ names_of l.limits.memory (take l.stamp (known_front l.table.slots));
  few : length l.names ≤ l.limits.most;
  lasts : lasts_in l.lasts ≡ lasts_after no_lasts (take l.stamp (known_front l.table.slots));
}
