-- What is told of a call, and of the lines that name it.
use Rattle.std.specs.Prelude.{◌≡◌, ℕ, ◌+◌, ◌<◌, Bool, true, false, List, take, slice_get, Some}
use Rattle.rmm_spec.specs.declared.command.Command.{Command}
use Rattle.rmm_spec.specs.declared.event.Event.{Event}
use Rattle.rmm_spec.specs.declared.event.Event.TheVariants.{Called, Returned}
use Rattle.rmm_spec.specs.declared.line.Line.{Line}
use Rattle.rmm_spec.specs.FirstFault.{Passes}
use Rattle.rmm_spec.specs.HistoryText.{History}
use Rattle.rmm_spec.specs.Linearization.{IsCalled, cpu_named, number_named}
use Rattle.rmm_spec.specs.State.{State}
use Rattle.history.specs.Calls.{IsCallOf}
use Rattle.reasons.specs.declared.named_call.NamedCall.{NamedCall}

-- what is told of the call is what the history records
abbrev pub IsTold : List Event → NamedCall → Type 0
IsTold events named = IsCallOf events named.cpu named.number named.call

-- whether an event is a call
abbrev pub is_call : Event → Bool
is_call (Called cpu number command) = true
is_call (Returned cpu number reply) = false

-- the line names the call
abbrev pub Names : ℕ → ℕ → Line → Type 0
Names cpu number line = (cpu_named line ≡ cpu) × (number_named line ≡ number)

-- the call of the line was made behind the place
pub record IsMadeAfter (events : List Event) (returned : ℕ) (line : Line) : Type 0 where
  pub called : ℕ
  pub command : Command
  pub is_called : IsCalled events called (cpu_named line) (number_named line) command
  pub after : returned < called

-- this is said of the line of the index
abbrev pub IsLineFor : List Line → ℕ → (Line → Type 0) → Type 0
IsLineFor lines index Says = (line : Line) × (slice_get lines index ≡ Some line) × Says line

-- of one of the lines
abbrev pub HasLine : List Line → (Line → Type 0) → Type 0
HasLine lines Says = (index : ℕ) × IsLineFor lines index Says

-- the line of the step names the call; steps count from 1
abbrev pub NamesAt : List Line → ℕ → ℕ → ℕ → Type 0
NamesAt lines step cpu number = (index : ℕ) × (step ≡ index + 1) × IsLineFor lines index (Names cpu number)

-- there is a line of the step
abbrev pub IsStep : List Line → ℕ → Type 0
IsStep lines step = (index : ℕ) × (line : Line) × (step ≡ index + 1) × (slice_get lines index ≡ Some line)

-- some lines of the order pass, and more of them than come before the index
pub record IsPassing (history : History) (lines : List Line) (index : ℕ) : Type 0 where
  pub last : State
  pub count : ℕ
  pub below : index < count
  pub passes : Passes history (take count lines) last
