-- The places come together.
use Rattle.std.proofs.Common.{◌-◌, ◌≤◌}
use Rattle.finding.proofs.suspecting.first_between.Given as goal

abbrev pub invariant-halves : goal.invariant-halves
invariant-halves l = l.guessed ≤ l.unguessed

abbrev pub decreases-halves : goal.decreases-halves
decreases-halves l = l.unguessed - l.guessed
