use Rattle.std.proofs.Common.{◌≡◌, ℕ, ◌<◌, get_or, length}
use Rattle.history.specs.declared.subhistory.Subhistory.{Subhistory}
use Rattle.history.proofs.subhistory.copies.Given as goal

abbrev pub invariant-loop-cpu : goal.invariant-loop-cpu
invariant-loop-cpu l = record {
  counted : length l.again ≡ 8;
  same : (cpu : ℕ) (other : Subhistory) → cpu < l.cpu → (get_or l.again cpu other).places.items ≡ (get_or l.subhistories cpu other).places.items;
}
