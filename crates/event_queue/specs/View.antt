-- What contracts see of a recorder and its passes.
use Rattle.std.specs.Prelude.{◌≡◌, ℕ, Bool, false, List, [], length, slice_get, Some}
use Rattle.std.specs.List.{sum_by}
use mathlib.Core.List.{IsPrefix}
use Rattle.atomic_table.specs.Seated.{TableId}
use Rattle.rmm_spec.specs.declared.event.Event.{Event}
use Rattle.rmm_spec.specs.HistoryText.{History, Stand, start, subhistory_of}
use Rattle.rmm_spec.specs.Run.{JournalEntry}
use Rattle.event_queue.specs.Stages.{Stage, Idle}

-- which queue it is, and how many events it holds at most
pub record RecorderView : Type 0 where
  pub queue : TableId
  pub capacity : ℕ

-- a CPU's own list of events, where it leads, how far the last call is, what it has heard of the events that were drained, and
-- whether a return was refused
pub record CpuView : Type 0 where
  pub queue : TableId
  pub cpus : ℕ
  pub cpu : ℕ
  pub events : List Event
  pub stand : Stand
  pub stage : Stage
  pub heard : List Event
  pub is_stopped : Bool

-- the pass has heard of these drained events
abbrev pub hearing : List Event → CpuView → CpuView
hearing drained pass = record pass { heard = drained }

-- all events that were drained
pub record ScribeView : Type 0 where
  pub queue : TableId
  pub cpus : ℕ
  pub events : List Event

-- the journal's commits
pub record OrderView : Type 0 where
  pub queue : TableId
  pub entries : List JournalEntry

-- a CPU's before its first call
abbrev pub before_calls : TableId → ℕ → ℕ → CpuView
before_calls queue cpus cpu =
    record { queue = queue; cpus = cpus; cpu = cpu; events = []; stand = start; stage = Idle; heard = []; is_stopped = false }

-- the history is the one that the scribe drains this queue into
pub record CanDrain (queue : TableId) (scribe : ScribeView) (history : History) : Type 0 where
  pub same_queue : scribe.queue ≡ queue
  pub same_cpus : history.config.cpus ≡ scribe.cpus
  pub same_events : history.events ≡ scribe.events

-- each pass is of this queue, and of the CPU of its place
abbrev pub AreSeats : TableId → List CpuView → Type 0
AreSeats queue passes = (cpu : ℕ) (pass : CpuView) → slice_get passes cpu ≡ Some pass → (pass.queue ≡ queue) × (pass.cpu ≡ cpu)

-- how many events the passes recorded together
abbrev pub count_recorded : List CpuView → ℕ
count_recorded passes = sum_by (λ pass. length pass.events) passes

-- each CPU's part of the events is a beginning of its pass's list
abbrev pub AreBegun : List CpuView → List Event → Type 0
AreBegun passes events = (cpu : ℕ) (pass : CpuView) → slice_get passes cpu ≡ Some pass → IsPrefix (subhistory_of cpu events) pass.events

-- each CPU's part of the events is its pass's whole list
abbrev pub AreWhole : List CpuView → List Event → Type 0
AreWhole passes events = (cpu : ℕ) (pass : CpuView) → slice_get passes cpu ≡ Some pass → subhistory_of cpu events ≡ pass.events
