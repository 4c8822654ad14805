-- Histories, and the texts that stand for them.
use Rattle.std.specs.Prelude.{◌≡◌, ℕ, ◌+◌, ◌<◌, ◌≤◌, Bool, true, false, not, ◌&&◌, ◌||◌, ◌==◌, if◌then◌else◌, List, [], ◌∷◌, ◌++◌, map, length, codes, Option, Some, None, IsSome}
use Rattle.std.specs.List.{AllByRecursion, filter}
use Rattle.std.specs.Option.{option_and_then}
use Rattle.rmm_spec.specs.declared.event.Event.{Event}
use Rattle.rmm_spec.specs.declared.event.Event.TheVariants.{Called, Returned}
use Rattle.rmm_spec.specs.declared.version.Version.{Version}
use Rattle.rmm_spec.specs.declared.version.Version.TheVariants.{One, Two, Large}
use Rattle.rmm_spec.specs.Text.{decimal, lines_text}
use Rattle.rmm_spec.specs.CommandText.{IsCommand, IsReply, command_parts, reply_parts}

-- how many granules and CPUs a machine has, and the version of the rules that it goes by
pub record Config : Type 0 where
  pub granules : ℕ
  pub cpus : ℕ
  pub version : Version

-- how many granules a machine of a version has at most
abbrev pub granule_limit : Version → ℕ
granule_limit One = 4096
granule_limit Two = 4096
granule_limit Large = 1048576

pub record IsConfig (config : Config) : Type 0 where
  pub some_granules : 1 ≤ config.granules
  pub most_granules : config.granules ≤ granule_limit config.version
  pub some_cpus : 1 ≤ config.cpus
  pub most_cpus : config.cpus ≤ 8

-- what is recorded of a run: who called what, and what came back, in the order of time
pub record History : Type 0 where
  pub config : Config
  pub events : List Event

abbrev pub cpu_of : Event → ℕ
cpu_of (Called cpu number command) = cpu
cpu_of (Returned cpu number reply) = cpu

-- a CPU's subhistory: its own events, in their order
abbrev pub subhistory_of : ℕ → List Event → List Event
subhistory_of cpu events = filter (λ e. cpu_of e == cpu) events

-- where one CPU stands: the number of its next call, and whether its last call hasn't returned
pub record Stand : Type 0 where
  pub next : ℕ
  pub is_open : Bool

abbrev pub start : Stand
start = record { next = 0; is_open = false }

-- a call is made where none is open, and has the next number; a return answers the open call
abbrev pub stand_after : Stand → Event → Option Stand
stand_after stand (Called cpu number command) =
    if not stand.is_open && number == stand.next then Some (record { next = stand.next + 1; is_open = true }) else None
stand_after stand (Returned cpu number reply) =
    if stand.is_open && number + 1 == stand.next then Some (record { next = stand.next; is_open = false }) else None

-- where a CPU stands after its events, or nothing where they are no record of a CPU
abbrev pub stand_from : Stand → List Event → Option Stand
stand_from stand [] = Some stand
stand_from stand (event ∷ events) = option_and_then (λ next. stand_from next events) (stand_after stand event)

abbrev pub IsRecord : List Event → Type 0
IsRecord events = IsSome (stand_from start events)

-- which of its CPU's events an event is in a record, counted from 0
abbrev pub rank : Event → ℕ
rank (Called cpu number command) = number + number
rank (Returned cpu number reply) = number + number + 1

abbrev pub IsEvent : ℕ → Event → Type 0
IsEvent cpus (Called cpu number command) = (cpu < cpus) × IsCommand command
IsEvent cpus (Returned cpu number reply) = (cpu < cpus) × IsReply reply

-- Each event has a text, each CPU's part is a record, and with its header the history has at most a million lines.
pub record IsHistory (history : History) : Type 0 where
  pub config : IsConfig history.config
  pub events : AllByRecursion (IsEvent history.config.cpus) history.events
  pub records : (cpu : ℕ) → IsRecord (subhistory_of cpu history.events)
  pub lines : length history.events < 1000000

-- The event may be recorded next. Room for its line is asked apart from this.
pub record CanFollow (history : History) (event : Event) : Type 0 where
  pub is_event : IsEvent history.config.cpus event
  pub record_goes_on : IsRecord (subhistory_of (cpu_of event) (history.events ++ event ∷ []))

-- the first two versions are numbered
abbrev pub is_version : ℕ → Bool
is_version number = number == 1 || number == 2

abbrev pub version_of : ℕ → Version
version_of number = if number == 2 then Two else One

-- the word that a history of a version begins with
abbrev pub mark : Version → List ℕ
mark One = codes "rmh1"
mark Two = codes "rmh2"
mark Large = codes "rml1"

abbrev pub config_parts : Config → List (List ℕ)
config_parts config = mark config.version ∷ decimal config.granules ∷ decimal config.cpus ∷ []

unfoldable pub event_parts : Event → List (List ℕ)
event_parts (Called cpu number command) = codes "c" ∷ decimal cpu ∷ decimal number ∷ command_parts command
event_parts (Returned cpu number reply) = codes "r" ∷ decimal cpu ∷ decimal number ∷ reply_parts reply

abbrev pub history_text : History → List ℕ
history_text history = lines_text (config_parts history.config ∷ map event_parts history.events)

-- the text stands for the history
pub record IsHistoryText (text : List ℕ) (history : History) : Type 0 where
  pub is_history : IsHistory history
  pub is_text : text ≡ history_text history

-- the grammar of histories
abbrev pub InHistories : List ℕ → Type 0
InHistories text = (history : History) × IsHistoryText text history
