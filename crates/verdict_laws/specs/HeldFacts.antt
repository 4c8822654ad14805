-- Where facts hold in a history: one of the first calls makes a fact and none may have ended it since, so a reply that denies it is wrong.
-- This project's own.
use Rattle.std.specs.Prelude.{◌≡◌, ℕ, ◌<◌, ◌⊎◌, All, true, false, List, Option, None, Some}
use Rattle.rmm_spec.specs.declared.call.Call.{Call}
use Rattle.rmm_spec.specs.declared.command.Command.{Command}
use Rattle.rmm_spec.specs.declared.event.Event.{Event}
use Rattle.rmm_spec.specs.declared.reply.Reply.{Reply}
use Rattle.rmm_spec.specs.Call.{call_of}
use Rattle.rmm_spec.specs.Linearization.{IsCalled, IsFinished, IsReturned}
use Rattle.verdict_laws.specs.declared.facts.Fact.{Fact}
use Rattle.verdict_laws.specs.declared.facts.InTurn.{InTurn}
use Rattle.verdict_laws.specs.declared.placing.Standing.{Standing}
use Rattle.verdict_laws.specs.Placing.{StandsBefore}
use Rattle.verdict_laws.specs.Slices.{ChangesNothing, IsBack, IsDoneBefore}
use Rattle.verdict_laws.specs.Denying.{deny, deny_inside}
use Rattle.verdict_laws.specs.Facts.{begins, leaves_beside, leaves_with, makes, makes_with, may_end, stays_with}

-- of two calls, by the places at which they are made, the one is supposed to come before the other
abbrev pub IsInTurn : Option InTurn → ℕ → ℕ → Type 0
IsInTurn None one other = ⊥
IsInTurn (Some turn) one other = (turn.first ≡ one) × (turn.second ≡ other)

-- the call doesn't end the fact, whatever it is replied, if it returned without that
abbrev pub IsLeftBy : Fact → List Event → ℕ → ℕ → Command → Type 0
IsLeftBy fact events cpu number command = (given : Reply)
    → ((returned : ℕ) (told : Reply) → IsReturned events returned cpu number told → told ≡ given) → may_end fact cpu (call_of command) given ≡ false

-- nor does it where its CPU stands
abbrev pub IsLeftElsewhere : Fact → List Event → ℕ → ℕ → Command → Type 0
IsLeftElsewhere fact events cpu number command =
    (standing : Standing) × StandsBefore events cpu number standing × (stays_with fact (call_of command) standing ≡ true)

-- The call that is made at the one place returned before the other.
pub record IsOver (events : List Event) (place at : ℕ) : Type 0 where
  pub cpu : ℕ
  pub number : ℕ
  pub command : Command
  pub is_called : IsCalled events place cpu number command
  pub returned : ℕ
  pub given : Reply
  pub is_returned : IsReturned events returned cpu number given
  pub before : returned < at

-- the call made at one place changes nothing, doesn't end the fact, is the one that is made at another, or comes after that: it is made after that
-- returned, or is supposed to
abbrev pub IsLeftAt : Option InTurn → Fact → List Event → (place at cpu number : ℕ) → Command → Type 0
IsLeftAt turn fact events place at cpu number command =
    ChangesNothing events cpu number command
    ⊎ ((at ≡ place) ⊎ (IsOver events place at ⊎ (IsInTurn turn place at
    ⊎ (IsLeftBy fact events cpu number command ⊎ IsLeftElsewhere fact events cpu number command))))

-- A call that was carried out and comes before the one that is made at the place: it returned before that, or is supposed to.
pub record IsFirst (turn : Option InTurn) (events : List Event) (place : ℕ) : Type 0 where
  pub end : ℕ
  pub call : IsDoneBefore events end
  pub first : (call.returned < place) ⊎ IsInTurn turn call.called place

-- The call makes the fact, by what it says and is replied, or as a REC leaves there that its CPU stands in.
abbrev pub IsMadeBy : Fact → (events : List Event) → {place : ℕ} → IsDoneBefore events place → Type 0
IsMadeBy fact events maker =
    (makes fact maker.cpu (call_of maker.command) maker.given ≡ true)
    ⊎ ((standing : Standing) × StandsBefore events maker.cpu maker.number standing × (leaves_with fact (call_of maker.command) standing ≡ true))

-- the call is the one that is made at the place, or comes before that: it returned before that was made, or is supposed to
abbrev pub IsNoLater : Option InTurn → List Event → (made at cpu number : ℕ) → Type 0
IsNoLater turn events made at cpu number = (at ≡ made) ⊎ (IsBack events cpu number made ⊎ IsInTurn turn at made)

-- each call leaves the fact, but for the one that is made at the one place and those that come before that
abbrev pub IsLeftSince : Option InTurn → Fact → List Event → (made place : ℕ) → Type 0
IsLeftSince turn fact events made place = (at cpu number : ℕ) (command : Command) → IsCalled events at cpu number command
    → IsNoLater turn events made at cpu number ⊎ IsLeftAt turn fact events place at cpu number command

-- The fact holds wherever the call takes effect that is made at the place: it begins so, and no other call may end it, or one makes it before, and
-- none that isn't before that one may end it.
abbrev pub IsHeldAlone : Option InTurn → Fact → List Event → ℕ → Type 0
IsHeldAlone turn fact events place =
    ((begins fact ≡ true) × ((at cpu number : ℕ) (command : Command) → IsCalled events at cpu number command
    → IsLeftAt turn fact events place at cpu number command))
    ⊎ ((maker : IsFirst turn events place) × IsMadeBy fact events maker.call × IsLeftSince turn fact events maker.call.called place)

-- one makes it by itself, or where another fact holds, which does so by itself
abbrev pub IsMadeWith : Option InTurn → Fact → (events : List Event) → {place : ℕ} → IsDoneBefore events place → Type 0
IsMadeWith turn fact events maker =
    IsMadeBy fact events maker
    ⊎ ((other : Fact) × IsHeldAlone turn other events maker.called × (makes_with other fact (call_of maker.command) maker.given ≡ true))

-- a call leaves it where another fact holds, which does so by itself
abbrev pub IsLeftBeside : Option InTurn → Fact → List Event → ℕ → Command → Type 0
IsLeftBeside turn fact events at command =
    (other : Fact) × IsHeldAlone turn other events at × (leaves_beside other fact (call_of command) ≡ true)

-- each call leaves it since, by itself or beside another fact
abbrev pub IsLeftSinceWith : Option InTurn → Fact → List Event → (made place : ℕ) → Type 0
IsLeftSinceWith turn fact events made place = (at cpu number : ℕ) (command : Command) → IsCalled events at cpu number command
    → IsNoLater turn events made at cpu number
    ⊎ (IsLeftAt turn fact events place at cpu number command ⊎ IsLeftBeside turn fact events at command)

-- it is held by itself, or others are held where a call makes it or leaves it
abbrev pub IsHeldAt : Option InTurn → Fact → List Event → ℕ → Type 0
IsHeldAt turn fact events place =
    IsHeldAlone turn fact events place
    ⊎ ((maker : IsFirst turn events place) × IsMadeWith turn fact events maker.call
    × IsLeftSinceWith turn fact events maker.call.called place)

-- all of them do
abbrev pub AreHeldAt : Option InTurn → List Fact → List Event → ℕ → Type 0
AreHeldAt turn facts events place = All (λ (fact : Fact). IsHeldAt turn fact events place) facts

-- the facts deny the reply to the CPU's call of that number, by themselves or where the CPU stands
abbrev pub IsDenied : ℕ → List Event → List Fact → (cpu number : ℕ) → Call → Reply → Type 0
IsDenied granules events facts cpu number c given =
    (deny granules facts c given ≡ true)
    ⊎ ((standing : Standing) × StandsBefore events cpu number standing × (deny_inside facts standing c given ≡ true))

-- A return whose reply facts deny that are held where the calls come so.
pub record IsDeniedWhere (turn : Option InTurn) (granules : ℕ) (events : List Event) : Type 0 where
  pub facts : List Fact
  pub called : ℕ
  pub cpu : ℕ
  pub number : ℕ
  pub command : Command
  pub is_called : IsCalled events called cpu number command
  pub returned : ℕ
  pub given : Reply
  pub is_returned : IsReturned events returned cpu number given
  pub are_held : AreHeldAt turn facts events called
  pub denied : IsDenied granules events facts cpu number (call_of command) given

-- a call is made at the place
abbrev pub IsMadeAt : List Event → ℕ → Type 0
IsMadeAt events place = (cpu : ℕ) × (number : ℕ) × (command : Command) × IsCalled events place cpu number command

-- Of two calls one returned, and a reply is denied whichever of them comes first.
pub record IsDeniedEitherWay (granules : ℕ) (events : List Event) : Type 0 where
  pub turn : InTurn
  pub is_made : IsMadeAt events turn.first
  pub is_other : IsMadeAt events turn.second
  pub is_finished : IsFinished events is_other.0 is_other.1
  pub apart : ¬ (turn.first ≡ turn.second)
  pub so : IsDeniedWhere (Some turn) granules events
  pub otherwise : IsDeniedWhere (Some (record { first = turn.second; second = turn.first })) granules events
