-- What is left stands behind as many lines as are cut off.
use Rattle.explain.proofs.TextLines.{IsBehind}
use Rattle.explain.proofs.explaining.behind_lines.Given as goal

abbrev pub decreases-loop-left : goal.decreases-loop-left
decreases-loop-left l = l.left

abbrev pub invariant-loop-left : goal.invariant-loop-left
invariant-loop-left l = IsBehind l.text l.count l.left l.rest
