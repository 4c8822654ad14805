-- The words so far are the same.
use Rattle.explain.proofs.Common.{◌<◌, ◌≡◌, slice_get, ℕ}
use Rattle.explain.proofs.deciding.first_wrong.Given as goal

abbrev pub invariant-loop-i : goal.invariant-loop-i
invariant-loop-i l = (k : ℕ) → k < l.i → slice_get l.claimed k ≡ slice_get l.specified k
