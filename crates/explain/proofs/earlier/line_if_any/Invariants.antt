-- No line so far is the one.
use Rattle.explain.specs.Told.{Names}
use Rattle.explain.proofs.Lines.{HasNoneBelow}
use Rattle.explain.proofs.earlier.line_if_any.Given as goal

abbrev pub invariant-loop-i : goal.invariant-loop-i
invariant-loop-i l = HasNoneBelow l.certificate.lines l.i (Names l.cpu l.number)
