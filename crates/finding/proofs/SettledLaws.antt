-- What is found of a call that may come next at once.
use Rattle.finding.proofs.Common.{◌≡◌, Choice, History, Reply, Some, State, refl, subst, sym, ℕ}
use Rattle.std.proofs.Common.{Result, Ok}
use Rattle.arrayvec.specs.ArrayVec.{ArrayVec}
use Rattle.rmm_spec.specs.declared.accepted.Accepted.{Accepted}
use Rattle.rmm_spec.specs.declared.accepted.Accepted.TheVariants.{Done}
use Rattle.rmm_spec.specs.declared.change.Change.{Change}
use Rattle.rmm_spec.specs.declared.command.Command.{Command}
use Rattle.rmm_spec.specs.declared.refusal.Refusal.{Refusal}
use Rattle.rmm_spec.specs.declared.reply.Reply.TheVariants as reply
use Rattle.rmm_spec.specs.Call.{call_of}
use Rattle.rmm_spec.specs.Change.{changed}
use Rattle.rmm_spec.specs.Linearization.{IsCalled, IsReturned}
use Rattle.rmm_spec.specs.Step.{CarriesOut, outcome}
use Rattle.history.specs.Calls.{ArePlacesOf}
use Rattle.spec_lemmas.proofs.Calls.{told_at_call, told_at_return}
use Rattle.finding.specs.Settled.{ComesAtOnce, IsGivenHere}
use Rattle.finding.proofs.OfferLaws.{returned_at}

module _ (history : History) (state : State) (choice : Choice) (returned : ℕ) (command : Command) (given : Reply) where
  -- a call returned what the specification gives it in the state
  pub IsGiven-here : ArePlacesOf history.events choice.cpu choice.number choice.places
      → choice.places.returned ≡ Some returned → (c : ℕ) × (n : ℕ) × IsCalled history.events choice.places.called c n command
      → (c : ℕ) × (n : ℕ) × IsReturned history.events returned c n given → ComesAtOnce history.events command
      → (words : ArrayVec ℕ) (change : Change) → outcome state choice.cpu (call_of command) ≡ Ok (Done words change) → given ≡ reply.Ok words
      → IsGivenHere history state choice
  IsGiven-here are some made told at_once words change out same = record {
    place = returned;
    given = given;
    is_returned = told_at_return history.events returned choice.cpu choice.number given
        (returned_at history.events choice.cpu choice.number returned choice.places are some) told;
    command = command;
    is_called = told_at_call history.events choice.places.called choice.cpu choice.number command are.called made;
    at_once = at_once;
    new = changed state change;
    step = subst (λ (led : Result Accepted Refusal). CarriesOut led state given (changed state change)) (sym out) (same, refl);
  }
