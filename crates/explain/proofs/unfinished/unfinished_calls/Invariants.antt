-- Those of the places so far.
use Rattle.explain.specs.Unfinished.{AreUnfinished}
use Rattle.explain.proofs.unfinished.unfinished_calls.Given as goal

abbrev pub invariant-loop-place : goal.invariant-loop-place
invariant-loop-place l = AreUnfinished l.history.recorded.events l.certificate.lines l.place l.calls.items
