-- What happened on a machine, moment after moment, and the history and the certificate that it makes.
use Rattle.std.specs.Prelude.{⊤, ◌≡◌, ℕ, ◌+◌, ◌-◌, ◌<◌, ◌==◌, nat_lt, if◌then◌else◌, List, [], ◌∷◌, ◌++◌, Option, Some, None, slice_index_or}
use Rattle.rmm_spec.specs.declared.event.Event.{Event}
use Rattle.rmm_spec.specs.declared.event.Event.TheVariants as event
use Rattle.rmm_spec.specs.declared.line.Line.{Line}
use Rattle.rmm_spec.specs.declared.line.Line.TheVariants as line
use Rattle.rmm_spec.specs.declared.reply.Reply.{Reply}
use Rattle.rmm_spec.specs.Cell.{put}
use Rattle.merging.specs.Events.{Moment, Call, Commit, Return}
use Rattle.merging.specs.Table.{Happened}

-- where a CPU is between two commands, or with one
pub data Phase : Type 0 where
  Idle : Phase
  Called : Phase
  Committed : Reply → Phase

-- a CPU after some moments: the line of its last one, and how often it has called and returned
pub record Stand : Type 0 where
  pub line : ℕ
  pub calls : ℕ
  pub returns : ℕ
  pub phase : Phase

abbrev pub start : Stand
start = record { line = 0; calls = 0; returns = 0; phase = Idle }

-- a CPU of a list of them
abbrev pub stand_at : List Stand → ℕ → Stand
stand_at stands cpu = slice_index_or stands cpu start

abbrev pub phase_after : Moment → Phase
phase_after (Call command) = Called
phase_after (Commit given) = Committed given
phase_after (Return given) = Idle

abbrev pub call_count : Moment → ℕ
call_count (Call command) = 1
call_count (Commit given) = 0
call_count (Return given) = 0

abbrev pub return_count : Moment → ℕ
return_count (Call command) = 0
return_count (Commit given) = 0
return_count (Return given) = 1

abbrev pub stand_after : Stand → Happened → Stand
stand_after stand slot = record {
  line = slot.line;
  calls = stand.calls + call_count slot.moment;
  returns = stand.returns + return_count slot.moment;
  phase = phase_after slot.moment;
}

-- all CPUs after one more moment, and after some
abbrev pub stands_with : (ℕ → Stand) → Happened → ℕ → Stand
stands_with stands slot = put stands slot.cpu (stand_after (stands slot.cpu) slot)

abbrev pub stands_after : (ℕ → Stand) → List Happened → ℕ → Stand
stands_after stands [] = stands
stands_after stands (slot ∷ slots) = stands_after (stands_with stands slot) slots

-- a call is made where none is open, it commits once, and it returns what it committed
abbrev pub Fits : Phase → Moment → Type 0
Fits Idle (Call command) = ⊤
Fits Idle (Commit given) = ⊥
Fits Idle (Return given) = ⊥
Fits Called (Call command) = ⊥
Fits Called (Commit given) = ⊤
Fits Called (Return given) = ⊥
Fits (Committed committed) (Call command) = ⊥
Fits (Committed committed) (Commit given) = ⊥
Fits (Committed committed) (Return given) = committed ≡ given

-- The moment may be next on its CPU, of which a machine has so many; its line stands behind those of the CPU's earlier ones.
pub record CanFollow (cpus : ℕ) (stand : Stand) (slot : Happened) : Type 0 where
  pub cpu : slot.cpu < cpus
  pub line : stand.line < slot.line
  pub fits : Fits stand.phase slot.moment

-- each moment may follow those before it
abbrev pub IsRun : ℕ → (ℕ → Stand) → List Happened → Type 0
IsRun cpus stands [] = ⊤
IsRun cpus stands (slot ∷ slots) = CanFollow cpus (stands slot.cpu) slot × IsRun cpus (stands_with stands slot) slots

abbrev pub starts : ℕ → Stand
starts cpu = start

-- how many events of a history a moment makes, and how many lines of a certificate
abbrev pub event_count : Moment → ℕ
event_count (Call command) = 1
event_count (Commit given) = 0
event_count (Return given) = 1

abbrev pub line_count : Moment → ℕ
line_count (Call command) = 0
line_count (Commit given) = 1
line_count (Return given) = 0

-- ---- the history: calls and returns

-- a call has the number of its CPU's calls before it, and a return that of the call before it
abbrev pub events_of : Stand → ℕ → Moment → List Event
events_of stand cpu (Call command) = event.Called cpu stand.calls command ∷ []
events_of stand cpu (Commit given) = []
events_of stand cpu (Return given) = event.Returned cpu (stand.calls - 1) given ∷ []

abbrev pub events_from : (ℕ → Stand) → List Happened → List Event
events_from stands [] = []
events_from stands (slot ∷ slots) = events_of (stands slot.cpu) slot.cpu slot.moment ++ events_from (stands_with stands slot) slots

-- ---- the certificate: commits

-- how often a CPU returns
abbrev pub returns_in : ℕ → List Happened → ℕ
returns_in cpu [] = 0
returns_in cpu (slot ∷ slots) = (if slot.cpu == cpu then return_count slot.moment else 0) + returns_in cpu slots

-- A commit is kept where its CPU returns after it, of all returns that there are; else its call is unfinished, with the reply that it committed.
abbrev pub lines_of : ℕ → Stand → ℕ → Moment → List Line
lines_of returns stand cpu (Call command) = []
lines_of returns stand cpu (Commit given) =
    (if nat_lt stand.returns returns then line.Keep cpu (stand.calls - 1) else line.Unfinished cpu (stand.calls - 1) given) ∷ []
lines_of returns stand cpu (Return given) = []

abbrev pub lines_from : (ℕ → ℕ) → (ℕ → Stand) → List Happened → List Line
lines_from returns stands [] = []
lines_from returns stands (slot ∷ slots) =
    lines_of (returns slot.cpu) (stands slot.cpu) slot.cpu slot.moment ++ lines_from returns (stands_with stands slot) slots

-- ---- all that happened, and up to the first stamp of which nothing is known

abbrev pub known_front : List (Option Happened) → List Happened
known_front [] = []
known_front (None ∷ slots) = []
known_front (Some slot ∷ slots) = slot ∷ known_front slots

abbrev pub events_merged : List Happened → List Event
events_merged slots = events_from starts slots

abbrev pub lines_merged : List Happened → List Line
lines_merged slots = lines_from (λ cpu. returns_in cpu slots) starts slots
