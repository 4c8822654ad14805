-- Calls that may come next at once, by what the state gives them.
use Rattle.std.specs.Prelude.{◌≡◌, ◌⊎◌, ℕ, true, List}
use Rattle.rmm_spec.specs.declared.command.Command.{Command}
use Rattle.rmm_spec.specs.declared.event.Event.{Event}
use Rattle.rmm_spec.specs.declared.reply.Reply.{Reply}
use Rattle.rmm_spec.specs.HistoryText.{History}
use Rattle.rmm_spec.specs.Linearization.{IsCalled, IsReturned}
use Rattle.rmm_spec.specs.State.{State}
use Rattle.rmm_spec.specs.Step.{Step}
use Rattle.verdict_laws.specs.Looking.{is_looking}
use Rattle.verdict_laws.specs.Order.{IsRefusal}
use Rattle.verdict_laws.specs.Unread.{ReadsNothing, is_extending}
use Rattle.finding.specs.declared.choice.Choice.{Choice}

-- the call has returned with a refusal that the specification gives it in the state
pub record IsRefusedHere (history : History) (state : State) (choice : Choice) : Type 0 where
  pub place : ℕ
  pub given : Reply
  pub is_returned : IsReturned history.events place choice.cpu choice.number given
  pub refusal : IsRefusal given
  pub command : Command
  pub is_called : IsCalled history.events choice.places.called choice.cpu choice.number command
  pub step : Step state choice.cpu command given state

-- the command only looks, or extends a measurement where none is read
abbrev pub ComesAtOnce : List Event → Command → Type 0
ComesAtOnce events command = (is_looking command ≡ true) ⊎ (ReadsNothing events × (is_extending command ≡ true))

-- the call is of such a command, and has returned with the reply that the specification gives it in the state
pub record IsGivenHere (history : History) (state : State) (choice : Choice) : Type 0 where
  pub place : ℕ
  pub given : Reply
  pub is_returned : IsReturned history.events place choice.cpu choice.number given
  pub command : Command
  pub is_called : IsCalled history.events choice.places.called choice.cpu choice.number command
  pub at_once : ComesAtOnce history.events command
  pub new : State
  pub step : Step state choice.cpu command given new

abbrev pub IsSettledHere : History → State → Choice → Type 0
IsSettledHere history state choice = IsRefusedHere history state choice ⊎ IsGivenHere history state choice
