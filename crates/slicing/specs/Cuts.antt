-- What is asked of the events of a plan.
use Rattle.std.specs.Prelude.{⊤, ◌≡◌, ℕ, ◌+◌, ◌<◌, ◌≤◌, ◌⊎◌, true, false, Contains, List, MatchOption, Option, None, Some}
use Rattle.rmi_view.specs.Seen.{reply_seen}
use Rattle.rmm_spec.specs.declared.command.Command.{Command}
use Rattle.rmm_spec.specs.declared.event.Event.{Event}
use Rattle.rmm_spec.specs.declared.reply.Reply.{Reply}
use Rattle.rmm_spec.specs.Call.{call_of}
use Rattle.rmm_spec.specs.Linearization.{IsCalled, IsReturned}
use Rattle.rmm_spec.specs.Rows.{Needed}
use Rattle.rmm_spec.specs.Step.Terms.{named}
use Rattle.verdict_laws.specs.Slices as slices
use Rattle.slicing.specs.declared.call_at.CallAt.{CallAt}
use Rattle.slicing.specs.declared.plan.Plan.{Plan}
use Rattle.slicing.specs.Calls.{AreBack, ChangesNothing, IsCall, ShowsNames, back_of}
use Rattle.slicing.specs.Plans.{AreNoted, entered_at, mark_of, number_at}

-- ---- kept calls

-- it wasn't refused, or for what it names alone
abbrev pub IsUsable : CallAt → Type 0
IsUsable c = MatchOption c.answer ⊤ (λ a. slices.IsKeptReply c.call (reply_seen a.reply))

-- no granule that it may change is noted as changed later at the earliest
abbrev pub ChangesLater : Plan → CallAt → Type 0
ChangesLater plan c = (granule : ℕ) → slices.may_change c.call granule ≡ true → (mark_of plan.marks.items granule).first ≤ c.place

-- it needs the granule as an unused one, and its reply, if it returned, shows that
abbrev pub IsFreshTo : Plan → CallAt → Needed → Type 0
IsFreshTo plan c n = AreNoted plan → (n.tag ≡ slices.unused_tag (slices.is_lent plan.lent.items n.granule)) × ShowsNames c

-- each call that was made before the plan's first place returned before each kept call was made, and what it stands on
abbrev pub AreEarly : List Event → Plan → Type 0
AreEarly events plan = AreBack events plan.from plan.first

-- at the place of the call the granule is unused as the plan has it, unless a kept call has changed it
abbrev pub IsUnusedTo : List Event → Plan → CallAt → ℕ → Type 0
IsUnusedTo events plan c granule =
    AreNoted plan → AreEarly events plan
    → slices.IsUnusedAt events (number_at plan) c.place granule (slices.is_lent plan.lent.items granule)

-- so it does, or a kept call that may change the granule returned before, or the granule is unused without one
unfoldable pub KnowsOf : List Event → Plan → CallAt → Needed → Type 0
KnowsOf events plan c n =
    slices.IsKnownAt events (number_at plan) c.place n.granule ⊎ (IsFreshTo plan c n ⊎ IsUnusedTo events plan c n.granule)

-- so it is of each granule that it names
abbrev pub KnowsAt : List Event → Plan → CallAt → Type 0
KnowsAt events plan c = (n : Needed) → Contains (named c.call) n → KnowsOf events plan c n

-- The call may be kept.
pub record IsKeptAt (events : List Event) (plan : Plan) (c : CallAt) : Type 0 where
  pub usable : IsUsable c
  pub first : plan.first ≤ c.place
  pub inside : slices.is_hosts c.call ≡ false → entered_at plan c.place ≡ true
  pub knows : KnowsAt events plan c
  pub later : ChangesLater plan c

-- ---- other calls

-- it only looks, was refused, or is made outside of RECs and returned before each kept call was made that may change what it may change
abbrev pub IsLeftAt : Plan → CallAt → Type 0
IsLeftAt plan c =
    ChangesNothing c
    ⊎ (((granule : ℕ) → slices.may_change c.call granule ≡ true → back_of c < (mark_of plan.marks.items granule).first)
    × (entered_at plan c.place ≡ false))

-- ---- all events

abbrev pub FitsNumber : List Event → Plan → Option ℕ → CallAt → Type 0
FitsNumber events plan (Some number) c = IsKeptAt events plan c
FitsNumber events plan None c = IsLeftAt plan c

-- the call is made inside of a REC as the one before leaves it
abbrev pub IsEnteredAt : List Event → Plan → CallAt → Type 0
IsEnteredAt events plan c =
    (c.number ≡ 0 → entered_at plan c.place ≡ false)
    × ((place returned number : ℕ) (command : Command) (given : Reply) → c.number ≡ number + 1
    → IsCalled events place c.cpu number command → IsReturned events returned c.cpu number given
    → entered_at plan c.place ≡ slices.is_entered_by (number_at plan place) (call_of command) given (entered_at plan place))

-- the call that is made at the place, if one is, may be kept if it has a number, and may be left if not
abbrev pub CallFits : List Event → Plan → ℕ → Type 0
CallFits events plan place = (cpu number : ℕ) (command : Command) → IsCalled events place cpu number command
    → (c : CallAt) × IsCall events command c × (c.place ≡ place) × (c.cpu ≡ cpu) × (c.number ≡ number)
    × FitsNumber events plan (number_at plan place) c × IsEnteredAt events plan c

-- the call that returns at the place, if one does, has its number there
abbrev pub ReturnFits : List Event → Plan → ℕ → Type 0
ReturnFits events plan returned = (place cpu number : ℕ) (command : Command) (given : Reply) → IsCalled events place cpu number command
    → IsReturned events returned cpu number given → number_at plan returned ≡ number_at plan place

-- so of both
abbrev pub EventFits : List Event → Plan → ℕ → Type 0
EventFits events plan place = CallFits events plan place × ReturnFits events plan place
