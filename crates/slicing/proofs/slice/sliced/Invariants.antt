-- The events so far.
use Rattle.std.proofs.Common.{◌≡◌, ◌++◌}
use Rattle.verdict_laws.specs.Slices.{lending_events}
use Rattle.slicing.specs.Plans.{number_at}
use Rattle.slicing.proofs.EventLaws.{taken_to}
use Rattle.slicing.proofs.slice.sliced.Given as goal

abbrev pub invariant-places : goal.invariant-places
invariant-places l = l.slice.recorded ≡ record {
  config = l.history.recorded.config;
  events = lending_events 0 l.plan.lent.items ++ taken_to (number_at l.plan) l.count l.history.recorded.events l.place;
}
