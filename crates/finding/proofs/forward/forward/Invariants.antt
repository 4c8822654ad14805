-- The orders that are kept: where they lead nowhere, all do, and each call that returned so far stands in them.
use Rattle.finding.proofs.Common.{LeadsNowhere, []}
use Rattle.std.proofs.Common.{◌-◌, ◌≤◌}
use Rattle.finding.specs.Begun.{AllReturned, AreOrders}
use Rattle.finding.proofs.forward.forward.Given as goal

abbrev pub invariant-places : goal.invariant-places
invariant-places g l = record {
  orders : AreOrders l.history.recorded l.kept (LeadsNowhere l.history.recorded []);
  returned : AllReturned l.history.recorded l.kept.begun.items l.place;
  within : l.place ≤ l.until;
}

abbrev pub decreases-places : goal.decreases-places
decreases-places g l = l.until - l.place
