-- Up to the later place there is no order, and the places come together.
use Rattle.std.proofs.Common.{◌-◌, ◌≤◌}
use Rattle.finding.specs.Found.{HasNoneUpTo}
use Rattle.finding.proofs.naming.first_lost.Given as goal

abbrev pub invariant-halves : goal.invariant-halves
invariant-halves g l = record {
  order : l.before ≤ l.lost;
  none : HasNoneUpTo l.history.recorded l.lost;
}

abbrev pub decreases-halves : goal.decreases-halves
decreases-halves g l = l.lost - l.before
