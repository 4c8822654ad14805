-- The events so far, and those that are left.
use Rattle.std.proofs.Common.{◌≡◌, ◌++◌, length}
use Rattle.finding.proofs.first_part.first_part.Given as goal

abbrev pub invariant-places : goal.invariant-places
invariant-places l = record {
  config : l.part.recorded.config ≡ l.history.recorded.config;
  count : length l.part.recorded.events ≡ l._place;
  all : l.part.recorded.events ++ l.events ≡ l.history.recorded.events;
}
