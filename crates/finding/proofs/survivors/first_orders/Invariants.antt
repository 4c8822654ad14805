-- The orders so far.
use Rattle.finding.proofs.Common.{Passes, State}
use Rattle.std.specs.List.{All}
use Rattle.finding.proofs.survivors.first_orders.Given as goal

abbrev pub invariant-orders : goal.invariant-orders
invariant-orders g l = All (λ order. (state : State) × Passes l.history.recorded order.lines state) l.told.items
