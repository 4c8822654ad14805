-- The order so far: where it leads nowhere, it did at first, and each call that returned so far stands in it.
use Rattle.std.proofs.Common.{◌-◌, ◌≤◌}
use Rattle.finding.specs.Begun.{HasReturned, IsBegun, IsLost}
use Rattle.finding.proofs.begun.Begun.go_far.Given as goal

abbrev pub invariant-places : goal.invariant-places
invariant-places l = record {
  begun : IsBegun l.history.recorded l.self;
  covers : IsLost l.history.recorded l.self → IsLost l.history.recorded l.fn.self;
  returned : HasReturned l.history.recorded l.self.front.counts l.place;
  within : l.place ≤ l.reach.until;
}

abbrev pub decreases-places : goal.decreases-places
decreases-places l = l.reach.until - l.place
