-- The index by which a call is found.
use Rattle.std.specs.Prelude.{◌≡◌, ℕ, ◌<◌, List, length, slice_get, slice_index, slice_index_or, Some}
use Rattle.rmm_spec.specs.declared.event.Event.{Event}
use Rattle.rmm_spec.specs.HistoryText.{Config, IsHistory, cpu_of, subhistory_of, rank}
use Rattle.history.specs.Entry.{events_in, IsHeld}
use Rattle.history.specs.declared.entry.Entry.{Entry}
use Rattle.history.specs.declared.subhistory.Subhistory.{Subhistory}

-- the place is that of the CPU's event of that rank
pub record HasRank (events : List Event) (cpu ranked place : ℕ) : Type 0 where
  pub event : Event
  pub is_event : slice_get events place ≡ Some event
  pub of_cpu : cpu_of event ≡ cpu
  pub is_ranked : rank event ≡ ranked

-- the subhistory has the place of each event of the CPU, by its rank
pub record IsSubhistory (events : List Event) (cpu : ℕ) (subhistory : Subhistory) : Type 0 where
  pub counted : length subhistory.places.items ≡ length (subhistory_of cpu events)
  pub each : (ranked : ℕ) → ranked < length subhistory.places.items → HasRank events cpu ranked (slice_index subhistory.places.items ranked)

-- a subhistory for each CPU that a machine can have, of a well-formed history
pub record IsIndexed (config : Config) (events : List Event) (subhistories : List Subhistory) : Type 0 where
  pub is_history : IsHistory (record { config = config; events = events })
  pub counted : length subhistories ≡ 8
  pub each : (cpu : ℕ) (other : Subhistory) → cpu < 8 → IsSubhistory events cpu (slice_index_or subhistories cpu other)

-- the fields of a history
pub record IsStored (config : Config) (words : List ℕ) (entries : List Entry) (subhistories : List Subhistory) : Type 0 where
  pub held : IsHeld words entries
  pub indexed : IsIndexed config (events_in words entries) subhistories
