-- None of the orders so far lacks one.
use Rattle.std.proofs.Common.{◌+◌, take}
use Rattle.finding.specs.Begun.{AllReturned}
use Rattle.finding.proofs.shelved.Orders.are_up_to.Given as goal

abbrev pub invariant-orders : goal.invariant-orders
invariant-orders l = AllReturned l.history.recorded (take l.order-index l.order-items) (l.place + 1)
