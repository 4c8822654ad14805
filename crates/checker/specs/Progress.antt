-- What the checker keeps of the lines so far.
use Rattle.std.specs.Prelude.{◌≡◌, ℕ, ◌<◌, ◌≤◌, Bool, true, false, List, length, slice_get, slice_index_or, Some}
use Rattle.rmm_spec.specs.declared.command.Command.{Command}
use Rattle.rmm_spec.specs.declared.event.Event.{Event}
use Rattle.rmm_spec.specs.declared.line.Line.{Line}
use Rattle.rmm_spec.specs.HistoryText.{History, IsHistory}
use Rattle.rmm_spec.specs.State.{State}
use Rattle.rmm_spec.specs.Linearization.{IsCalled, IsFinished, IsNamed, cpu_named, number_named}
use Rattle.rmm_spec.specs.FirstFault.{Passes}

-- the call's place is that of a line's call
abbrev pub IsCallOf : List Event → List Line → ℕ → Type 0
IsCallOf events lines place =
    (i : ℕ) × (line : Line) × (command : Command) × (slice_get lines i ≡ Some line)
    × IsCalled events place (cpu_named line) (number_named line) command

-- The lines pass and lead to the state. A flag at each call's place says whether a line names the call, and
-- no line's call was made later than latest, which is the place of one of them, or 0 where there is none.
pub record Progress (history : History) (lines : List Line) (named : List Bool) (latest : ℕ) (state : State) : Type 0 where
  pub is_history : IsHistory history
  pub passes : Passes history lines state
  pub counted : length named ≡ length history.events
  pub flagged : (place cpu number : ℕ) (command : Command) → IsCalled history.events place cpu number command
      → slice_index_or named place false ≡ true → IsNamed lines cpu number
  pub unflagged : (place cpu number : ℕ) (command : Command) → IsCalled history.events place cpu number command
      → slice_index_or named place false ≡ false → ¬ IsNamed lines cpu number
  pub no_later : (i place : ℕ) (line : Line) (command : Command) → slice_get lines i ≡ Some line
      → IsCalled history.events place (cpu_named line) (number_named line) command → place ≤ latest
  pub reached : 0 < latest → IsCallOf history.events lines latest

-- each finished call that was made below the place has a line
abbrev pub AreNamedBelow : List Event → List Line → ℕ → Type 0
AreNamedBelow events lines bound =
    (place cpu number : ℕ) (command : Command) → place < bound → IsCalled events place cpu number command
    → IsFinished events cpu number → IsNamed lines cpu number

-- call number of cpu is made at the place, and returned
pub record IsFinishedCallAt (events : List Event) (place cpu number : ℕ) : Type 0 where
  pub command : Command
  pub is_called : IsCalled events place cpu number command
  pub finished : IsFinished events cpu number

-- no call that returned is made at the place
abbrev pub HasNoFinishedCall : List Event → ℕ → Type 0
HasNoFinishedCall events place = (cpu number : ℕ) → ¬ IsFinishedCallAt events place cpu number
