-- The events so far.
use Rattle.std.proofs.Common.{◌≡◌, ℕ, length, slice_get, Some}
use Rattle.rmm_spec.specs.declared.event.Event.{Event}
use Rattle.verdict_laws.specs.Unread.{IsUnreadEvent}
use Rattle.finding.proofs.unread.unread.Given as goal

abbrev pub invariant-places : goal.invariant-places
invariant-places l = record {
  config : l.unread.recorded.config ≡ l.history.recorded.config;
  len : length l.unread.recorded.events ≡ l.place;
  each : (place : ℕ) (event other : Event) → slice_get l.history.recorded.events place ≡ Some event
      → slice_get l.unread.recorded.events place ≡ Some other → IsUnreadEvent l.history.recorded.events event other;
}
