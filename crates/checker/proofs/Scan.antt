-- The scan over the calls of a history for one that returned and has no line.
use Rattle.std.proofs.Common.{◌≡◌, ℕ, ◌+◌, Bool, true, false, List, get_or, inl, inr, subst, arith}
use Rattle.std.proofs.lemmas.Bool.{cases_lt}
use Rattle.rmm_spec.specs.declared.command.Command.{Command}
use Rattle.rmm_spec.specs.declared.event.Event.{Event}
use Rattle.rmm_spec.specs.declared.line.Line.{Line}
use Rattle.rmm_spec.specs.HistoryText.{History}
use Rattle.rmm_spec.specs.State.{State}
use Rattle.rmm_spec.specs.Linearization.{IsCalled, IsFinished, IsNamed}
use Rattle.rmm_spec.specs.FirstFault.{IsFirstMissing}
use Rattle.checker.specs.Progress.{Progress, AreNamedBelow, IsFinishedCallAt, HasNoFinishedCall}

-- the call at the place isn't missing
abbrev IsNamedAt : List Event → List Line → ℕ → Type 0
IsNamedAt events lines place =
    (cpu number : ℕ) (command : Command) → IsCalled events place cpu number command → IsFinished events cpu number → IsNamed lines cpu number

AreNamedBelow-more : (events : List Event) (lines : List Line) (place : ℕ) → AreNamedBelow events lines place → IsNamedAt events lines place
    → AreNamedBelow events lines (place + 1)
AreNamedBelow-more events lines place below here at cpu number command within is_called finished = elim (cases_lt at place) [
  | inl before ↦ below at cpu number command before is_called finished
  | inr after ↦
      let same : at ≡ place = omega arith in
      here cpu number command (subst (λ (p : ℕ). IsCalled events p cpu number command) same is_called) finished
]

-- a line names the call at the place
pub AreNamedBelow-flagged : (history : History) (lines : List Line) (named : List Bool) (latest : ℕ) (state : State) (place : ℕ)
    → Progress history lines named latest state → AreNamedBelow history.events lines place → get_or named place false ≡ true
    → AreNamedBelow history.events lines (place + 1)
AreNamedBelow-flagged history lines named latest state place progress below set =
    AreNamedBelow-more history.events lines place below
    (λ cpu number command is_called finished. progress.flagged place cpu number command is_called set)

-- no call that returned is made at the place
pub AreNamedBelow-pending : (events : List Event) (lines : List Line) (place : ℕ) → AreNamedBelow events lines place
    → HasNoFinishedCall events place → AreNamedBelow events lines (place + 1)
AreNamedBelow-pending events lines place below none =
    AreNamedBelow-more events lines place below (λ cpu number command is_called finished.
    absurd (none cpu number (record { command = command; is_called = is_called; finished = finished })))

-- the call at the place is the first that is missing
pub IsFirstMissing-here : (history : History) (lines : List Line) (named : List Bool) (latest : ℕ) (state : State) (place cpu number : ℕ)
    → Progress history lines named latest state → AreNamedBelow history.events lines place → get_or named place false ≡ false
    → IsFinishedCallAt history.events place cpu number → IsFirstMissing history.events lines cpu number
IsFirstMissing-here history lines named latest state place cpu number progress below unset call = record {
  finished = call.finished;
  unnamed = progress.unflagged place cpu number call.command call.is_called unset;
  called = place;
  command = call.command;
  is_called = call.is_called;
  first = λ earlier other_cpu other made before is_made done. below earlier other_cpu other made before is_made done;
}
