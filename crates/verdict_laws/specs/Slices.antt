-- Slices of a history: the calls on some granules, kept as they are, beside others that come to nothing there. This project's own.
use Rattle.std.specs.Prelude.{◌≡◌, ℕ, ◌+◌, ◌<◌, ◌==◌, ◌&&◌, ◌||◌, ◌⊎◌, Bool, true, false, not, List, [], ◌∷◌, ◌++◌, Contains, Option, None, Some, IsSome}
use Rattle.std.specs.List.{list_any}
use Rattle.rmm_spec.specs.declared.call.Call.{Call}
use Rattle.rmm_spec.specs.declared.call.Call.TheVariants as call
use Rattle.rmm_spec.specs.declared.command.Command.{Command}
use Rattle.rmm_spec.specs.declared.event.Event.{Event}
use Rattle.rmm_spec.specs.declared.event.Event.TheVariants.{Called, Returned}
use Rattle.rmm_spec.specs.declared.function_id.FunctionId.TheVariants as function
use Rattle.rmm_spec.specs.declared.reply.Reply.{Reply}
use Rattle.rmm_spec.specs.declared.reply.Reply.TheVariants as reply
use Rattle.rmm_spec.specs.declared.tag.Tag.{Tag}
use Rattle.rmm_spec.specs.declared.tag.Tag.TheVariants.{Undelegated, Delegated, Rd}
use Rattle.rmm_spec.specs.Call.{Class, ByExit, ByHost, ByRealm, call_of, class_of}
use Rattle.rmm_spec.specs.HistoryText.{History}
use Rattle.rmm_spec.specs.Linearization.{IsCalled, IsReturned}
use Rattle.rmm_spec.specs.Locks.{is_named}
use Rattle.rmm_spec.specs.Lookup.{is_granule}
use Rattle.rmm_spec.specs.Ownership.{is_accepted}
use Rattle.rmm_spec.specs.Rows.{Needed, ok}
use Rattle.rmm_spec.specs.Step.Terms.{named, needed}
use Rattle.verdict_laws.specs.Looking.{is_looking}
use Rattle.verdict_laws.specs.Making.{taken_vmid}
use Rattle.verdict_laws.specs.Separate.{is_freed}

-- ---- calls

abbrev pub is_by_host : Class → Bool
is_by_host ByHost = true
is_by_host ByRealm = false
is_by_host ByExit = false

-- whether a host gives the call
abbrev pub is_hosts : Call → Bool
is_hosts c = is_by_host (class_of c)

-- whether the CPU is inside of a REC after the call, if it is carried out, by whether it was before
unfoldable pub is_inside_after : Call → Bool → Bool
is_inside_after (call.RecEnter rec) inside = true
is_inside_after call.Exit inside = false
is_inside_after _ inside = inside

-- whether it is after a call with that reply
abbrev pub inside_after : Call → Reply → Bool → Bool
inside_after c (reply.Ok words) inside = is_inside_after c inside
inside_after c given inside = inside

-- the granules that a call names, but for the one whose content it reads
unfoldable pub changeable : Call → List Needed
changeable (call.DataCreate rd granule ipa source flags digest) = needed rd Rd ∷ needed granule Delegated ∷ []
changeable c = named c

-- whether it may change the granule, or what is kept there, and names it
abbrev pub may_change : Call → ℕ → Bool
may_change c granule = is_named (changeable c) granule

-- the tag of a granule that nothing uses, by whether it is lent to the realm world
abbrev pub unused_tag : Bool → Tag
unused_tag true = Delegated
unused_tag false = Undelegated

-- ---- slices

-- the command by which a host lends a granule
abbrev pub delegation : ℕ → Command
delegation granule = record { function = function.GranuleDelegate; words = record { items = granule ∷ [] } }

-- granules are lent one after another, on CPU 0, from a number of its calls on
abbrev pub lending_events : ℕ → List ℕ → List Event
lending_events number [] = []
lending_events number (granule ∷ more) =
    Called 0 number (delegation granule) ∷ Returned 0 number (ok []) ∷ lending_events (number + 1) more

abbrev pub with_number : ℕ → Event → Event
with_number number (Called cpu old command) = Called cpu number command
with_number number (Returned cpu old given) = Returned cpu number given

-- the event with its number, where it has one, before others
abbrev pub numbered : Option ℕ → Event → List Event → List Event
numbered None event more = more
numbered (Some number) event more = with_number number event ∷ more

-- of the events from a place on those whose places have numbers, which are those of their calls
abbrev pub events_from : (ℕ → Option ℕ) → ℕ → List Event → List Event
events_from numbers place [] = []
events_from numbers place (event ∷ more) = numbered (numbers place) event (events_from numbers (place + 1) more)

-- Granules are lent, and then come the kept calls of the history, with other numbers: those whose events have one, by the events' places.
pub record IsSlice (history slice : History) (numbers : ℕ → Option ℕ) (lent : List ℕ) : Type 0 where
  pub config : slice.config ≡ history.config
  pub events : slice.events ≡ lending_events 0 lent ++ events_from numbers 0 history.events

-- ---- what is asked of them

-- the call returned before the place
abbrev pub IsBack : List Event → ℕ → ℕ → ℕ → Type 0
IsBack events cpu number place = (returned : ℕ) × (given : Reply) × IsReturned events returned cpu number given × (returned < place)

-- whether a reply shows that each granule which the call names has the tag that is needed there: the row on that comes first, and refuses with 1
abbrev pub shows_names : Reply → Bool
shows_names (reply.Ok words) = true
shows_names (reply.Err status index) = not (status == 1)
shows_names reply.Misplaced = false

-- the call's reply, if it returned, shows what it names
abbrev pub ShowsNamesIfBack : List Event → ℕ → ℕ → Type 0
ShowsNamesIfBack events cpu number = (returned : ℕ) (given : Reply) → IsReturned events returned cpu number given → shows_names given ≡ true

-- a kept call that may change the granule returned before the place
pub record IsKnownAt (events : List Event) (numbers : ℕ → Option ℕ) (place granule : ℕ) : Type 0 where
  pub called : ℕ
  pub cpu : ℕ
  pub number : ℕ
  pub command : Command
  pub is_called : IsCalled events called cpu number command
  pub kept : IsSome (numbers called)
  pub changes : may_change (call_of command) granule ≡ true
  pub back : IsBack events cpu number place

-- whether the granule is one of these
abbrev pub is_lent : List ℕ → ℕ → Bool
is_lent lent granule = list_any (λ (other : ℕ). other == granule) lent

-- ---- granules that others left unused

-- whether the call, carried out with that reply, leaves the granule unused, and lent to the realm world or not, as its words or the reply say
unfoldable pub leaves_unused : Call → Reply → ℕ → Bool → Bool
leaves_unused (call.GranuleDelegate other) given granule lent = (other == granule) && lent
leaves_unused (call.GranuleUndelegate other) given granule lent = (other == granule) && not lent
leaves_unused (call.RealmDestroy rd) given granule lent = (rd == granule) && lent
leaves_unused (call.RecDestroy rec) given granule lent = (rec == granule) && lent
leaves_unused c given granule lent = is_freed c given granule && lent

-- whether the one call makes the realm or the REC that the other ends, with the granule as a part that isn't named when it ends
unfoldable pub makes_part : Call → Call → ℕ → Bool
makes_part (call.RealmCreate rd root width level vmid algo) (call.RealmDestroy other) granule = (rd == other) && (root == granule)
makes_part (call.RecCreate rd rec mpidr flags aux0 aux1) (call.RecDestroy other) granule =
    (rec == other) && ((aux0 == granule) || (aux1 == granule))
makes_part _ _ granule = false

-- whether the one call makes or ends what the other ends
unfoldable pub is_of_ended : Call → Call → Bool
is_of_ended (call.RealmCreate rd root width level vmid algo) (call.RealmDestroy other) = rd == other
is_of_ended (call.RealmDestroy rd) (call.RealmDestroy other) = rd == other
is_of_ended (call.RecCreate rd rec mpidr flags aux0 aux1) (call.RecDestroy other) = rec == other
is_of_ended (call.RecDestroy rec) (call.RecDestroy other) = rec == other
is_of_ended _ _ = false

-- A call that was carried out, and returned before the place.
pub record IsDoneBefore (events : List Event) (place : ℕ) : Type 0 where
  pub called : ℕ
  pub cpu : ℕ
  pub number : ℕ
  pub command : Command
  pub is_called : IsCalled events called cpu number command
  pub returned : ℕ
  pub given : Reply
  pub is_returned : IsReturned events returned cpu number given
  pub accepted : is_accepted given ≡ true
  pub back : returned < place

-- the call changes nothing: it only looks, or was refused
abbrev pub ChangesNothing : List Event → ℕ → ℕ → Command → Type 0
ChangesNothing events cpu number command =
    (is_looking command ≡ true) ⊎ ((returned : ℕ) × (given : Reply) × IsReturned events returned cpu number given × (is_accepted given ≡ false))

-- of the calls that aren't kept, the one made at the place is the last that may have changed the granule
abbrev pub IsLastOn : List Event → (ℕ → Option ℕ) → ℕ → ℕ → Type 0
IsLastOn events numbers granule last =
    (place cpu number : ℕ) (command : Command) → IsCalled events place cpu number command → numbers place ≡ None
    → may_change (call_of command) granule ≡ true
    → ChangesNothing events cpu number command ⊎ ((place ≡ last) ⊎ IsBack events cpu number last)

-- A call left the granule unused, and none that isn't kept has changed it since.
pub record IsGivenUp (events : List Event) (numbers : ℕ → Option ℕ) (place granule : ℕ) (lent : Bool) : Type 0 where
  pub giver : IsDoneBefore events place
  pub leaves : leaves_unused (call_of giver.command) giver.given granule lent ≡ true
  pub last : IsLastOn events numbers granule giver.called

-- The granule was a part of a realm or a REC that was ended: since this was made, no call has changed the granule that isn't kept, and up to its end
-- none has made or ended the same.
pub record IsPartBack (events : List Event) (numbers : ℕ → Option ℕ) (place granule : ℕ) : Type 0 where
  pub ender : IsDoneBefore events place
  pub maker : IsDoneBefore events ender.called
  pub makes : makes_part (call_of maker.command) (call_of ender.command) granule ≡ true
  pub last : IsLastOn events numbers granule maker.called
  pub alone : (other cpu number : ℕ) (command : Command) → IsCalled events other cpu number command
      → is_of_ended (call_of command) (call_of ender.command) ≡ true
      → ChangesNothing events cpu number command
      ⊎ ((other ≡ maker.called) ⊎ ((other ≡ ender.called) ⊎ (IsBack events cpu number maker.called ⊎ (ender.returned < other))))

-- no call that isn't kept has changed the granule
abbrev pub IsUntouched : List Event → (ℕ → Option ℕ) → ℕ → Type 0
IsUntouched events numbers granule =
    (place cpu number : ℕ) (command : Command) → IsCalled events place cpu number command → numbers place ≡ None
    → may_change (call_of command) granule ≡ true → ChangesNothing events cpu number command

-- at the place the granule is unused, lent to the realm world or not, unless a kept call has changed it
abbrev pub IsUnusedAt : List Event → (ℕ → Option ℕ) → ℕ → ℕ → Bool → Type 0
IsUnusedAt events numbers place granule lent =
    IsGivenUp events numbers place granule lent
    ⊎ ((IsPartBack events numbers place granule × (lent ≡ true)) ⊎ (IsUntouched events numbers granule × (lent ≡ false)))

-- ---- what is asked of each call

-- what may be replied to a kept call: it is carried out, or refused for what it names and finds there
abbrev pub IsKeptReply : Call → Reply → Type 0
IsKeptReply c (reply.Ok words) = Unit {0}
IsKeptReply c (reply.Err status index) = taken_vmid c ≡ None
IsKeptReply c reply.Misplaced = ⊥

-- A kept call: each granule that it names was changed by a kept call before, or it needs that as an unused one, and its reply shows that it is one,
-- or others left it unused before.
-- A realm's call and an exit are given inside of a REC that was entered.
pub record IsKeptCall (events : List Event) (numbers : ℕ → Option ℕ) (lent : List ℕ) (entered : ℕ → Bool) (place cpu number : ℕ) (command : Command)
    : Type 0 where
  pub replies : (returned : ℕ) (given : Reply) → IsReturned events returned cpu number given → IsKeptReply (call_of command) given
  pub knows : (n : Needed) → Contains (named (call_of command)) n
      → IsKnownAt events numbers place n.granule
      ⊎ (((n.tag ≡ unused_tag (is_lent lent n.granule)) × ShowsNamesIfBack events cpu number)
      ⊎ IsUnusedAt events numbers place n.granule (is_lent lent n.granule))
  pub inside : is_hosts (call_of command) ≡ false → entered place ≡ true

-- the call returned before each kept call that may change the granule was made
abbrev pub IsBackBefore : List Event → (ℕ → Option ℕ) → ℕ → ℕ → ℕ → Type 0
IsBackBefore events numbers cpu number granule = (place other other_number : ℕ) (command : Command)
    → IsCalled events place other other_number command → IsSome (numbers place) → may_change (call_of command) granule ≡ true
    → IsBack events cpu number place

-- A call that isn't kept: it only looks, it was refused, or it returned before what it may change is known to a kept call, and is made outside of
-- RECs that were entered.
abbrev pub IsLeftCall : List Event → (ℕ → Option ℕ) → (ℕ → Bool) → ℕ → ℕ → ℕ → Command → Type 0
IsLeftCall events numbers entered place cpu number command =
    ChangesNothing events cpu number command
    ⊎ (((granule : ℕ) → may_change (call_of command) granule ≡ true → IsBackBefore events numbers cpu number granule) × (entered place ≡ false))

-- whether the CPU is inside of a REC after a kept call, or another, by the call and its reply and whether it was before
abbrev pub is_entered_by : Option ℕ → Call → Reply → Bool → Bool
is_entered_by (Some kept) c given inside = inside_after c given inside
is_entered_by None c given inside = inside

-- Which calls are made inside of a REC in the slice, by the places at which they are made: none of a CPU's first calls, and others as those
-- before leave it.
pub record AreEntered (events : List Event) (numbers : ℕ → Option ℕ) (entered : ℕ → Bool) : Type 0 where
  pub first : (place cpu : ℕ) (command : Command) → IsCalled events place cpu 0 command → entered place ≡ false
  pub next : (place returned later cpu number : ℕ) (command more : Command) (given : Reply) → IsCalled events place cpu number command
      → IsReturned events returned cpu number given → IsCalled events later cpu (number + 1) more
      → entered later ≡ is_entered_by (numbers place) (call_of command) given (entered place)

-- each of these is a granule, and none stands twice
abbrev pub AreLent : ℕ → List ℕ → Type 0
AreLent granules [] = Unit {0}
AreLent granules (granule ∷ more) = (is_granule granules granule ≡ true) × (is_lent more granule ≡ false) × AreLent granules more

-- The numbers cut a slice out of the history, in which these granules are lent first, and these calls made inside of a REC: a call has its number
-- where it returns as where it is made.
pub record IsCut (history : History) (numbers : ℕ → Option ℕ) (lent : List ℕ) (entered : ℕ → Bool) : Type 0 where
  pub pairs : (place returned cpu number : ℕ) (command : Command) (given : Reply) → IsCalled history.events place cpu number command
      → IsReturned history.events returned cpu number given → numbers returned ≡ numbers place
  pub inside : AreEntered history.events numbers entered
  pub kept : (place cpu number : ℕ) (command : Command) → IsCalled history.events place cpu number command → IsSome (numbers place)
      → IsKeptCall history.events numbers lent entered place cpu number command
  pub left : (place cpu number : ℕ) (command : Command) → IsCalled history.events place cpu number command → numbers place ≡ None
      → IsLeftCall history.events numbers entered place cpu number command
  pub granules : AreLent history.config.granules lent
