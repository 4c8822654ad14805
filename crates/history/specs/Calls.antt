-- What is told of a call.
use Rattle.std.specs.Prelude.{◌≡◌, ℕ, ◌+◌, List, MatchOption}
use Rattle.rmm_spec.specs.declared.command.Command.{Command}
use Rattle.rmm_spec.specs.declared.event.Event.{Event}
use Rattle.rmm_spec.specs.declared.reply.Reply.{Reply}
use Rattle.rmm_spec.specs.Linearization.{IsCalled, IsReturned, IsFinished}
use Rattle.history.specs.declared.history.Call.{Call}
use Rattle.history.specs.declared.history.Places.{Places}

-- the places of a call and of its return
pub record ArePlacesOf (events : List Event) (cpu number : ℕ) (places : Places) : Type 0 where
  pub called : (command : Command) × IsCalled events places.called cpu number command
  pub returned : MatchOption places.returned (¬ IsFinished events cpu number) (λ place. (given : Reply) × IsReturned events place cpu number given)

-- the line of the text on which the event of a place stands, behind the header
abbrev pub line_at : ℕ → ℕ
line_at place = place + 2

-- the lines of a call and of its return, with its command and its reply
pub record IsCallOf (events : List Event) (cpu number : ℕ) (call : Call) : Type 0 where
  pub called : (place : ℕ) × (call.called ≡ line_at place) × IsCalled events place cpu number call.command
  pub answer : MatchOption call.answer (¬ IsFinished events cpu number)
      (λ answer. (place : ℕ) × (answer.returned ≡ line_at place) × IsReturned events place cpu number answer.reply)
