-- The lines of the longest one so far pass.
use Rattle.finding.proofs.Common.{Passes, State}
use Rattle.finding.proofs.survivors.longest.Given as goal

abbrev pub invariant-orders : goal.invariant-orders
invariant-orders l = (state : State) × Passes l.history.recorded l.longest.lines state
