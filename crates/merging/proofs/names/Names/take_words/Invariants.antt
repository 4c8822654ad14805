use Rattle.std.proofs.Common.{◌≡◌, ◌≤◌, drop, length}
use Rattle.merging.specs.Names.{addresses_among, names_from}
use Rattle.merging.proofs.names.Names.take_words.Given as goal

abbrev pub invariant-loop-place : goal.invariant-loop-place
invariant-loop-place l = record {
  so_far : names_from l.self (addresses_among l.limits.memory l.roles l.place (drop l.place l.words))
      ≡ names_from l.fn.self (addresses_among l.limits.memory l.roles 0 l.words);
  few : length l.fn.self ≤ l.limits.most → length l.self ≤ l.limits.most;
}
