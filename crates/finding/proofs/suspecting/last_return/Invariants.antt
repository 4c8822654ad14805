-- The last one so far is no earlier.
use Rattle.finding.proofs.Common.{◌≤◌}
use Rattle.finding.proofs.suspecting.last_return.Given as goal

abbrev pub invariant-loop-returned : goal.invariant-loop-returned
invariant-loop-returned l = l.place ≤ l.last
