-- What is looked at of a call.
use Rattle.std.specs.Prelude.{◌≡◌, ℕ, ◌+◌, ◌<◌, ◌⊎◌, true, false, List, MatchOption, Option, Some, None, IfSome, take}
use Rattle.rmi_view.specs.Seen.{reply_seen}
use Rattle.rmm_spec.specs.declared.command.Command.{Command}
use Rattle.rmm_spec.specs.declared.event.Event.{Event}
use Rattle.rmm_spec.specs.Call.{call_of}
use Rattle.rmm_spec.specs.Linearization.{IsCalled, IsFinished, IsReturned}
use Rattle.rmm_spec.specs.Ownership.{is_accepted}
use Rattle.verdict_laws.specs.Looking.{is_looking_function}
use Rattle.verdict_laws.specs.Slices.{IsBack, shows_names}
use Rattle.slicing.specs.declared.call_at.Answer.{Answer}
use Rattle.slicing.specs.declared.call_at.CallAt.{CallAt}
use Rattle.slicing.specs.declared.last_return.LastReturn.{LastReturn}

-- the first events, so many
abbrev pub events_to : ℕ → List Event → List Event
events_to count events = take count events

-- each call that was made before one place returned before another
abbrev pub AreBack : List Event → ℕ → ℕ → Type 0
AreBack events from first = (place cpu number : ℕ) (command : Command) → IsCalled events place cpu number command → place < from
    → IsBack events cpu number first

-- the call returned so, or not at all
abbrev pub HasAnswer : List Event → ℕ → ℕ → Option Answer → Type 0
HasAnswer events cpu number answer =
    MatchOption answer (¬ IsFinished events cpu number) (λ a. IsReturned events a.place cpu number (reply_seen a.reply))

-- What is said of the call is so.
pub record IsCall (events : List Event) (command : Command) (c : CallAt) : Type 0 where
  pub is_called : IsCalled events c.place c.cpu c.number command
  pub function : c.function ≡ command.function
  pub call : c.call ≡ call_of command
  pub answer : HasAnswer events c.cpu c.number c.answer

-- a call is made at the place, and what is said of it is so
abbrev pub IsCallAt : List Event → ℕ → CallAt → Type 0
IsCallAt events place c = (c.place ≡ place) × ((command : Command) × IsCall events command c)

-- it is the CPU's call of the number, and what is said of it is so
abbrev pub IsCallOf : List Event → ℕ → ℕ → CallAt → Type 0
IsCallOf events cpu number c = (command : Command) × IsCall events command c × (c.cpu ≡ cpu) × (c.number ≡ number)

-- the place of its return, or one after each of a history
abbrev pub place_back : Option Answer → ℕ
place_back None = 1000000
place_back (Some answer) = answer.place

abbrev pub back_of : CallAt → ℕ
back_of c = place_back c.answer

-- its reply, if it returned, shows what it names
abbrev pub ShowsNames : CallAt → Type 0
ShowsNames c = IfSome c.answer (λ a. shows_names (reply_seen a.reply) ≡ true)

-- it was refused
abbrev pub IsRefused : CallAt → Type 0
IsRefused c = (a : Answer) × (c.answer ≡ Some a) × (is_accepted (reply_seen a.reply) ≡ false)

-- it only looks, or was refused
abbrev pub ChangesNothing : CallAt → Type 0
ChangesNothing c = (is_looking_function c.function ≡ true) ⊎ IsRefused c

-- The return is the last of the first events, so many, and answers the call.
pub record IsLastReturn (events : List Event) (count : ℕ) (last : LastReturn) : Type 0 where
  pub command : Command
  pub is_called : IsCalled events last.called last.cpu last.number command
  pub call : last.call ≡ call_of command
  pub returned : ℕ
  pub is_returned : IsReturned (events_to count events) returned last.cpu last.number (reply_seen last.reply)
  pub is_last : returned + 1 ≡ count

-- The return answers a call of these events.
pub record IsReturn (events : List Event) (last : LastReturn) : Type 0 where
  pub command : Command
  pub is_called : IsCalled events last.called last.cpu last.number command
  pub call : last.call ≡ call_of command
  pub returned : ℕ
  pub is_returned : IsReturned events returned last.cpu last.number (reply_seen last.reply)
