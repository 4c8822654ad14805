-- What is recorded of all CPUs together.
use Rattle.std.specs.Prelude.{◌≡◌, ℕ, List, ◌++◌, length}
use Rattle.std.specs.List.{AllByRecursion}
use mathlib.Core.List.{IsPrefix}
use Rattle.rmm_spec.specs.declared.event.Event.{Event}
use Rattle.rmm_spec.specs.HistoryText.{IsEvent, IsRecord, subhistory_of}

-- Each event has a text and is of one of the CPUs. Each CPU calls and returns in turn, and its calls are numbered from 0.
pub record AreRecords (cpus : ℕ) (events : List Event) : Type 0 where
  pub each : AllByRecursion (IsEvent cpus) events
  pub records : (cpu : ℕ) → IsRecord (subhistory_of cpu events)

-- The queue may hold these events while the CPU's own list is that one and it has heard of those: some events were drained
-- before them, which begin with those that it has heard of, and the CPU's part of all is its list.
pub record MayBeQueued (cpus cpu : ℕ) (own heard queued : List Event) : Type 0 where
  pub drained : List Event
  pub is_heard : IsPrefix heard drained
  pub are_records : AreRecords cpus (drained ++ queued)
  pub is_own : subhistory_of cpu (drained ++ queued) ≡ own

-- at some moment the queue held as many events as it can
abbrev pub WasFull : ℕ → ℕ → ℕ → List Event → List Event → Type 0
WasFull capacity cpus cpu own heard = (queued : List Event) × (length queued ≡ capacity) × MayBeQueued cpus cpu own heard queued
