-- The lines so far.
use Rattle.finding.proofs.Common.{◌≡◌, take}
use Rattle.finding.proofs.judging.first_lines.Given as goal

abbrev pub invariant-loop-i : goal.invariant-loop-i
invariant-loop-i l = l.first.lines ≡ take l.i l.order.lines
