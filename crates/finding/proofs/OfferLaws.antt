-- What the machine says to the line of a call, and what is told of a call's places.
use Rattle.finding.proofs.Common.{◌<◌, ◌≡◌, Choice, IsFinished, IsTrue, Line, List, Option, Reply, Some, State, cpu_named, length, number_named, refl, slice_get_within, subst, sym, ℕ}
use Rattle.std.proofs.Common.{Bool, true, false}
use Rattle.std.specs.Bool.{MatchBool}
use Rattle.std.specs.Option.{MatchOption}
use Rattle.rmm_spec.specs.declared.command.Command.{Command}
use Rattle.rmm_spec.specs.declared.event.Event.{Event}
use Rattle.rmm_spec.specs.declared.event.Event.TheVariants.{Called}
use Rattle.rmm_spec.specs.Step.{Step}
use Rattle.rmm_spec.specs.FirstFault.{IsRefused}
use Rattle.rmm_spec.specs.Linearization.{IsCalled, IsReturned, IsReplyOf}
use Rattle.history.specs.Calls.{ArePlacesOf}
use Rattle.history.specs.declared.history.Places.{Places}
use Rattle.spec_lemmas.proofs.Calls.{HasOnePlaces, told_at_call}
use Rattle.verdict_laws.proofs.Checked.{IsRefused-from_step}
use Rattle.finding.specs.Offering.{IsGiven}

-- ---- places

-- a call's place is one of the history
pub called_place : (events : List Event) (cpu number : ℕ) (places : Places) → ArePlacesOf events cpu number places → places.called < length events
called_place events cpu number places are =
    let called = are.called in
    slice_get_within events places.called (Called cpu number called.0) called.1

-- what is found of the call's return
pub returned_at : (events : List Event) (cpu number returned : ℕ) (places : Places)
    → ArePlacesOf events cpu number places → places.returned ≡ Some returned
    → (given : Reply) × IsReturned events returned cpu number given
returned_at events cpu number returned places are some =
    subst (λ (o : Option ℕ). MatchOption o (¬ IsFinished events cpu number)
    (λ place. (given : Reply) × IsReturned events place cpu number given)) some are.returned

-- ---- replies

-- ---- offers

module _ (events : List Event) (one : HasOnePlaces events) (line : Line) (choice : Choice)
    (are : ArePlacesOf events choice.cpu choice.number choice.places) (of_cpu : cpu_named line ≡ choice.cpu)
    (numbered : number_named line ≡ choice.number) (command : Command) (made : (c : ℕ) × (n : ℕ) × IsCalled events choice.places.called c n command)
    (given : Reply) (is_given : IsReplyOf events line given) (old : State) where
  is_called : IsCalled events choice.places.called (cpu_named line) (number_named line) command
  is_called =
      let here = told_at_call events choice.places.called choice.cpu choice.number command are.called made in
      subst (λ (c : ℕ). IsCalled events choice.places.called c (number_named line) command) (sym of_cpu)
      (subst (λ (n : ℕ). IsCalled events choice.places.called choice.cpu n command) (sym numbered) here)

  -- the machine gives the line's reply
  pub IsGiven-from_step : (new : State) → Step old choice.cpu command given new → IsGiven events line choice.places.called old new
  IsGiven-from_step new step = record {
    command = command;
    is_called = is_called;
    entry = record { cpu = cpu_named line; command = command; given = given };
    is_entry = record { cpu = refl; called = choice.places.called; is_called = is_called; given = is_given };
    step = subst (λ (c : ℕ). Step old c command given new) (sym of_cpu) step;
  }

  -- or refuses it
  pub IsRefused-from_offer : ((new : State) → ¬ Step old choice.cpu command given new) → IsRefused events old line
  IsRefused-from_offer refuses =
      IsRefused-from_step events one old line choice.places.called command given is_called is_given
      (λ new step. refuses new (subst (λ (c : ℕ). Step old c command given new) of_cpu step))

  -- so that each answer tells
  pub offered : (new : State) (answer : Bool) → (IsTrue answer → Step old choice.cpu command given new)
      → (answer ≡ false → (next : State) → ¬ Step old choice.cpu command given next)
      → MatchBool answer (IsGiven events line choice.places.called old new) (IsRefused events old line)
  offered new true step only = IsGiven-from_step new (step refl)
  offered new false step only = IsRefused-from_offer (only refl)
