-- Events by their stamps.
use Rattle.std.specs.Prelude.{◌≡◌, ◌≢◌, ℕ, ◌+◌, ◌<◌, List, length, slice_get, slice_index_or, Option, Some, None, IsSome}
use Rattle.merging.specs.Events.{Moment, IsMoment, Recorded}

-- what happened at a stamp, with the line that says so
pub record Happened : Type 0 where
  pub line : ℕ
  pub cpu : ℕ
  pub moment : Moment

-- How many granules and CPUs the header names, how many events were read, and what happened at each stamp from 0 on, as far as one is known.
pub record Table : Type 0 where
  pub granules : ℕ
  pub cpus : ℕ
  pub count : ℕ
  pub slots : List (Option Happened)

-- what happened at a stamp
abbrev pub slot_at : List (Option Happened) → ℕ → Option Happened
slot_at slots stamp = slice_index_or slots stamp None

-- the event of a place, counted from 0: the header is line 1
abbrev pub happened : ℕ → Recorded → Happened
happened place event = record { line = place + 2; cpu = event.cpu; moment = event.moment }

pub record IsHappened (slot : Happened) : Type 0 where
  pub cpu : slot.cpu < 8
  pub moment : IsMoment slot.moment

-- the slot is that of the event at some place, whose stamp this is
pub record IsOfEvent (events : List Recorded) (stamp : ℕ) (slot : Happened) : Type 0 where
  pub place : ℕ
  pub event : Recorded
  pub is_event : slice_get events place ≡ Some event
  pub is_stamp : event.stamp ≡ stamp
  pub is_slot : slot ≡ happened place event

-- Each event is at its stamp, so that no two have the same; each slot is some event's; and the last slot isn't empty.
pub record ArePlaced (events : List Recorded) (slots : List (Option Happened)) : Type 0 where
  pub each_event : (place : ℕ) (event : Recorded) → slice_get events place ≡ Some event → slot_at slots event.stamp ≡ Some (happened place event)
  pub each_slot : (stamp : ℕ) (slot : Happened) → slot_at slots stamp ≡ Some slot → IsOfEvent events stamp slot
  pub no_more : (last : ℕ) → length slots ≡ last + 1 → IsSome (slot_at slots last)

-- What happened at one stamp, of which nothing was known, is known now, and all else is as it was.
pub record IsPut (old new : List (Option Happened)) (stamp : ℕ) (slot : Happened) : Type 0 where
  pub free : slot_at old stamp ≡ None
  pub here : slot_at new stamp ≡ Some slot
  pub others : (other : ℕ) → other ≢ stamp → slot_at new other ≡ slot_at old other
  pub no_more : (last : ℕ) → length new ≡ last + 1 → (last ≡ stamp → ⊥) → length old ≡ last + 1
