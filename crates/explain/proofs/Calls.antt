-- Where the call of a line was made.
use Rattle.explain.proofs.Common.{◌<◌, Command, History, IsCalled, IsHistory, Line, List, Reply, cpu_named, number_named, subst, ℕ}
use Rattle.rmm_spec.specs.Linearization.{IsTooLate, IsReturned}
use Rattle.explain.specs.Told.{HasLine, IsMadeAfter}
use Rattle.spec_lemmas.proofs.Calls.{HasOnePlaces-from_history}

-- a call that was made behind a place was made at its own place
pub after_place : (history : History) → IsHistory history → (returned : ℕ) (line : Line) (called : ℕ)
    → (command : Command) × IsCalled history.events called (cpu_named line) (number_named line) command
    → IsMadeAfter history.events returned line → returned < called
after_place history is_history returned line called made later =
    let same = (HasOnePlaces-from_history history is_history).one_call later.called called (cpu_named line) (number_named line) later.command made.0
    later.is_called made.1 in
    subst (λ (x : ℕ). returned < x) same later.after

-- a line that is too late has an earlier one, whose call was made after the place of its own return
pub HasLine-from_IsTooLate : (history : History) → IsHistory history → (lines : List Line) (line : Line) (returned : ℕ)
    → (given : Reply) × IsReturned history.events returned (cpu_named line) (number_named line) given
    → IsTooLate history.events lines line → HasLine lines (IsMadeAfter history.events returned)
HasLine-from_IsTooLate history is_history lines line returned is_returned late =
    let before = late.3 in
    let same =
    (HasOnePlaces-from_history history is_history).one_return before.returned returned (cpu_named line) (number_named line) before.given is_returned.0
    before.is_returned is_returned.1 in
    let made : IsMadeAfter history.events returned late.1 = record {
      called = before.called;
      command = before.command;
      is_called = before.is_called;
      after = subst (λ (x : ℕ). x < before.called) same before.before;
    } in
    (late.0, (late.1, late.2, made))
