-- How many events each CPU has.
use Rattle.std.specs.Prelude.{◌≡◌, ℕ, ◌<◌, List, length, slice_index_or}
use Rattle.rmm_spec.specs.declared.event.Event.{Event}
use Rattle.rmm_spec.specs.HistoryText.{subhistory_of}

-- a count for each CPU that a machine can have: so many of the events are its own
pub record AreCounts (counts : List ℕ) (events : List Event) : Type 0 where
  pub counted : length counts ≡ 8
  pub each : (cpu other : ℕ) → cpu < 8 → slice_index_or counts cpu other ≡ length (subhistory_of cpu events)
