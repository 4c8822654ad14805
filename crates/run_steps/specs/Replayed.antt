-- The lines of a certificate, replayed from the opening on.
use Rattle.std.specs.Prelude.{◌≡◌, ◌⊎◌, ◌≤◌, ℕ, List, [], ◌∷◌, length, take, slice_get, Some, Result}
use Rattle.rmm_spec.specs.declared.accepted.Accepted.{Accepted}
use Rattle.rmm_spec.specs.declared.command.Command.{Command}
use Rattle.rmm_spec.specs.declared.event.Event.{Event}
use Rattle.rmm_spec.specs.declared.line.Line.{Line}
use Rattle.rmm_spec.specs.declared.refusal.Refusal.{Refusal}
use Rattle.rmm_spec.specs.Call.{call_of}
use Rattle.rmm_spec.specs.HistoryText.{History}
use Rattle.rmm_spec.specs.Linearization.{IsEntryOf}
use Rattle.rmm_spec.specs.Run.{JournalEntry}
use Rattle.rmm_spec.specs.State.{State, opening}
use Rattle.rmm_spec.specs.Step.{Step, outcome}

-- the line claims a reply to the command, which the specification answers so, and the machine gives it and goes on to new
pub record TakesLine (events : List Event) (old : State) (line : Line)
    (command : Command) (answer : Result Accepted Refusal) (new : State) : Type 0 where
  pub entry : JournalEntry
  pub is_entry : IsEntryOf events line entry
  pub is_command : command ≡ entry.command
  pub answers : answer ≡ outcome old entry.cpu (call_of entry.command)
  pub step : Step old entry.cpu entry.command entry.given new

-- the line claims no reply, or one that the machine doesn't give
abbrev pub StopsAt : List Event → State → Line → Type 0
StopsAt events old line =
    ((entry : JournalEntry) → ¬ IsEntryOf events line entry)
    ⊎ ((entry : JournalEntry) × IsEntryOf events line entry × ((new : State) → ¬ Step old entry.cpu entry.command entry.given new))

-- a line's command, and what the specification answered to it
pub record Told : Type 0 where
  pub command : Command
  pub answer : Result Accepted Refusal

-- the lines are taken one after another, and this is told of them
abbrev pub AreTaken : List Event → State → List Line → List Told → State → Type 0
AreTaken events old [] [] new = new ≡ old
AreTaken events old (line ∷ lines) (told ∷ more) new =
    (middle : State) × (TakesLine events old line told.command told.answer middle × AreTaken events middle lines more new)
AreTaken events old [] (told ∷ more) new = ⊥
AreTaken events old (line ∷ lines) [] new = ⊥

-- so many lines are replayed: all, or the next one stops the replay
pub record AreReplayed (history : History) (lines : List Line) (count : ℕ) (told : List Told) : Type 0 where
  pub last : State
  pub taken : AreTaken history.events (opening history.config) (take count lines) told last
  pub within : count ≤ length lines
  pub next : (line : Line) → slice_get lines count ≡ Some line → StopsAt history.events last line
