-- What is asked of calls that aren't kept, where they left a granule unused that a kept call names.
use Rattle.std.specs.Prelude.{◌≡◌, ℕ, ◌<◌, ◌≤◌, ◌⊎◌, true, List, Option, None, Some}
use Rattle.rmi_view.specs.Seen.{reply_seen}
use Rattle.rmm_spec.specs.declared.call.Call.{Call}
use Rattle.rmm_spec.specs.declared.command.Command.{Command}
use Rattle.rmm_spec.specs.declared.event.Event.{Event}
use Rattle.rmm_spec.specs.Call.{call_of}
use Rattle.rmm_spec.specs.Linearization.{IsCalled}
use Rattle.verdict_laws.specs.Slices as slices
use Rattle.slicing.specs.declared.call_at.Answer.{Answer}
use Rattle.slicing.specs.declared.call_at.CallAt.{CallAt}
use Rattle.slicing.specs.declared.plan.Plan.{Plan}
use Rattle.slicing.specs.declared.done.Done.{Done}
use Rattle.slicing.specs.Cuts.{AreEarly}
use Rattle.slicing.specs.Plans.{number_at}

-- the call that is made at one place was carried out, and returned before another
abbrev pub IsDone : List Event → (called place : ℕ) → Done → Type 0
IsDone events called place done =
    (d : slices.IsDoneBefore events place) × (d.called ≡ called) × (d.returned ≡ done.returned) × (call_of d.command ≡ done.call)
    × (d.given ≡ reply_seen done.reply) × (d.cpu ≡ done.cpu) × (d.number ≡ done.number)

-- the call returned before the place
abbrev pub ReturnedBefore : CallAt → ℕ → Type 0
ReturnedBefore c place = (a : Answer) × (c.answer ≡ Some a) × (a.place < place)

-- it is the last, or returned before that was made
abbrev pub IsNoLaterThan : CallAt → Option ℕ → Type 0
IsNoLaterThan c None = ⊥
IsNoLaterThan c (Some last) = (c.place ≡ last) ⊎ ReturnedBefore c last

-- the same of a call by its place
abbrev pub IsNoLater : List Event → Option ℕ → ℕ → ℕ → ℕ → Type 0
IsNoLater events None place cpu number = ⊥
IsNoLater events (Some last) place cpu number = (place ≡ last) ⊎ slices.IsBack events cpu number last

-- the call made at the place, if one is, is kept, changes nothing of the granule, or is no later than the last that does
abbrev pub IsQuietAt : List Event → Plan → ℕ → Option ℕ → ℕ → Type 0
IsQuietAt events plan granule last place =
    (cpu number : ℕ) (command : Command) → IsCalled events place cpu number command → number_at plan place ≡ None
    → slices.may_change (call_of command) granule ≡ true
    → slices.ChangesNothing events cpu number command ⊎ IsNoLater events last place cpu number

-- no event comes before the plan's first place, or no call that it stands on is made before the last
abbrev pub BeginsBefore : Plan → Option ℕ → Type 0
BeginsBefore plan None = plan.from ≡ 0
BeginsBefore plan (Some last) = plan.first ≤ last

-- each call is such
abbrev pub AreQuiet : List Event → Plan → ℕ → Option ℕ → Type 0
AreQuiet events plan granule last = AreEarly events plan → (place : ℕ) → IsQuietAt events plan granule last place

-- the call made at the place, if one is, doesn't make or end what the one call made and the other ended, unless before that or after it
abbrev pub IsAloneAt : List Event → (maker ender returned : ℕ) → Call → ℕ → Type 0
IsAloneAt events maker ender returned ending place =
    (cpu number : ℕ) (command : Command) → IsCalled events place cpu number command → slices.is_of_ended (call_of command) ending ≡ true
    → slices.ChangesNothing events cpu number command
    ⊎ ((place ≡ maker) ⊎ ((place ≡ ender) ⊎ (slices.IsBack events cpu number maker ⊎ (returned < place))))
