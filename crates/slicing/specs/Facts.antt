-- What is looked at of calls for the facts of a history.
use Rattle.std.specs.Prelude.{◌≡◌, ℕ, ◌<◌, ◌⊎◌, ◌&&◌, true, false, List, Option, None, Some, IfSome}
use Rattle.rmi_view.specs.Seen.{reply_seen}
use Rattle.rmm_spec.specs.declared.call.Call.{Call}
use Rattle.rmm_spec.specs.declared.command.Command.{Command}
use Rattle.rmm_spec.specs.declared.event.Event.{Event}
use Rattle.rmm_spec.specs.declared.reply.Reply.{Reply}
use Rattle.rmm_spec.specs.Call.{call_of}
use Rattle.rmm_spec.specs.Linearization.{IsCalled}
use Rattle.verdict_laws.specs.declared.facts.Fact.{Fact}
use Rattle.verdict_laws.specs.declared.placing.Standing.{Standing}
use Rattle.verdict_laws.specs.Denying.{deny_inside}
use Rattle.verdict_laws.specs.Facts.{frees_entry, leaves_with, makes, makes_with, may_end, stays_with}
use Rattle.verdict_laws.specs.HeldFacts.{IsFirst, IsHeldAlone, IsInTurn, IsLeftAt, IsLeftBeside, IsLeftSinceWith, IsMadeWith, IsNoLater}
use Rattle.verdict_laws.specs.Separate.{is_freed}
use Rattle.verdict_laws.specs.Placing.{StandsBefore}
use Rattle.verdict_laws.specs.declared.facts.InTurn.{InTurn}
use Rattle.slicing.specs.declared.call_at.CallAt.{CallAt}
use Rattle.slicing.specs.declared.done.Done.{Done}
use Rattle.slicing.specs.declared.last_return.LastReturn.{LastReturn}
use Rattle.slicing.specs.Calls.{ChangesNothing}
use Rattle.slicing.specs.Unused.{IsDone}

-- the call doesn't end the fact, whichever CPU makes it and whatever it is replied
abbrev pub Keeps : Fact → Call → Type 0
Keeps fact c = (cpu : ℕ) (given : Reply) → may_end fact cpu c given ≡ false

-- the call that is made at the place doesn't, if one is
abbrev pub KeepsUnread : Fact → List Event → ℕ → Type 0
KeepsUnread fact events at = (cpu number : ℕ) (command : Command) → IsCalled events at cpu number command → Keeps fact (call_of command)

-- the call doesn't end the fact, with its reply if it returned, or any
abbrev pub DoesNotEnd : Fact → CallAt → Type 0
DoesNotEnd fact c = (given : Reply) → IfSome c.answer (λ a. reply_seen a.reply ≡ given) → may_end fact c.cpu c.call given ≡ false

-- it doesn't give back the page at the address, with its reply if it returned, or any
abbrev pub DoesNotFree : ℕ → ℕ → ℕ → CallAt → Type 0
DoesNotFree rd ipa page c =
    (given : Reply) → IfSome c.answer (λ a. reply_seen a.reply ≡ given) → (frees_entry c.call rd ipa && is_freed c.call given page) ≡ false

-- the call is made at the place, changes nothing, or doesn't end the fact
abbrev pub LeavesAt : Fact → ℕ → CallAt → Type 0
LeavesAt fact place c = ChangesNothing c ⊎ ((c.place ≡ place) ⊎ DoesNotEnd fact c)

-- the call leaves the fact where its CPU stands
abbrev pub LeavesElsewhere : Fact → List Event → CallAt → Type 0
LeavesElsewhere fact events c =
    (standing : Standing) × StandsBefore events c.cpu c.number standing × (stays_with fact c.call standing ≡ true)

-- it leaves it either way, or is made at the place
abbrev pub IsPassedBy : Fact → List Event → ℕ → CallAt → Type 0
IsPassedBy fact events place c = LeavesAt fact place c ⊎ LeavesElsewhere fact events c

-- the call comes no later than one that makes a fact, where one does
abbrev pub ComesNoLater : Option InTurn → List Event → Option ℕ → (at cpu number : ℕ) → Type 0
ComesNoLater turn events None at cpu number = ⊥
ComesNoLater turn events (Some maker) at cpu number = IsNoLater turn events maker at cpu number

-- it is supposed to come before that, or after the one that is made at the place
abbrev pub ComesApart : Option InTurn → Option ℕ → (place at : ℕ) → Type 0
ComesApart turn None place at = IsInTurn turn place at
ComesApart turn (Some maker) place at = IsInTurn turn place at ⊎ IsInTurn turn at maker

-- the call made at one place, if one is, comes no later than the one that makes the fact, or leaves it, as the call made at another place may not
abbrev pub IsLeftOrEarly : Option InTurn → Fact → List Event → ℕ → Option ℕ → ℕ → Type 0
IsLeftOrEarly turn fact events place maker at = (cpu number : ℕ) (command : Command) → IsCalled events at cpu number command
    → ComesNoLater turn events maker at cpu number ⊎ IsLeftAt turn fact events place at cpu number command

-- it leaves the fact beside another
abbrev pub IsBesideAt : Option InTurn → Fact → List Event → ℕ → Type 0
IsBesideAt turn fact events at = (cpu number : ℕ) (command : Command) → IsCalled events at cpu number command
    → IsLeftBeside turn fact events at command

-- it is one or the other
abbrev pub IsLeftOrBeside : Option InTurn → Fact → List Event → ℕ → ℕ → ℕ → Type 0
IsLeftOrBeside turn fact events place maker at = (cpu number : ℕ) (command : Command) → IsCalled events at cpu number command
    → IsNoLater turn events maker at cpu number
    ⊎ (IsLeftAt turn fact events place at cpu number command ⊎ IsLeftBeside turn fact events at command)

-- the call makes the fact, by what it says and is replied, or as a REC leaves there that its CPU stands in
abbrev pub IsMadeBy : Fact → List Event → Done → Type 0
IsMadeBy fact events done =
    (makes fact done.cpu done.call (reply_seen done.reply) ≡ true)
    ⊎ ((standing : Standing) × StandsBefore events done.cpu done.number standing × (leaves_with fact done.call standing ≡ true))

-- the call was carried out, and comes before the one that is made at the place
abbrev pub IsDoneFirst : Option InTurn → List Event → (end called place : ℕ) → Done → Type 0
IsDoneFirst turn events end called place done = IsDone events called end done × ((done.returned < place) ⊎ IsInTurn turn called place)

-- the call that is made at the place makes the fact, by itself or where another holds by itself
abbrev pub MakesWith : Option InTurn → Fact → List Event → ℕ → Done → Type 0
MakesWith turn fact events place done =
    IsMadeBy fact events done
    ⊎ ((other : Fact) × IsHeldAlone turn other events place × (makes_with other fact done.call (reply_seen done.reply) ≡ true))

-- a call makes the fact, by itself or with another that holds by itself, and each since leaves it, by itself or beside another
abbrev pub IsHeldWith : Option InTurn → Fact → List Event → ℕ → Type 0
IsHeldWith turn fact events place =
    (maker : IsFirst turn events place) × IsMadeWith turn fact events maker.call × IsLeftSinceWith turn fact events maker.call.called place

-- the facts deny the return's reply where its CPU stands
abbrev pub IsDeniedInside : List Event → List Fact → LastReturn → Type 0
IsDeniedInside events facts last =
    (standing : Standing) × StandsBefore events last.cpu last.number standing
    × (deny_inside facts standing last.call (reply_seen last.reply) ≡ true)
