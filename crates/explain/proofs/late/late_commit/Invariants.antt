-- The overlapping lines so far leave the condition as it fails.
use Rattle.explain.proofs.Common.{◌+◌, ◌≡◌, state_of, ℕ}
use Rattle.explain.specs.Late.{IsMoved}
use Rattle.explain.proofs.late.late_commit.Given as goal

abbrev pub invariant-loop-i : goal.invariant-loop-i
invariant-loop-i l =
    (count : ℕ) × (l.i ≡ l.index + 1 + count)
    × IsMoved l.history.recorded.events l.certificate.lines l.call.cpu l.call.number l.test
    (l.index + 1) count (state_of l.machine) (state_of l.moved)
