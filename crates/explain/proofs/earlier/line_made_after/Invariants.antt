-- No line so far is the one.
use Rattle.explain.specs.Told.{IsMadeAfter}
use Rattle.explain.proofs.Lines.{HasNoneBelow}
use Rattle.explain.proofs.earlier.line_made_after.Given as goal

abbrev pub invariant-loop-i : goal.invariant-loop-i
invariant-loop-i l = HasNoneBelow l.certificate.lines l.i (IsMadeAfter l.history.recorded.events l.returned)
