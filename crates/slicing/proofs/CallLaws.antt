-- What is looked at of a call, in the words of the laws.
use Rattle.std.proofs.Common.{◌≡◌, ◌∙◌, ◌<◌, ◌≤◌, ℕ, true, List, length, Some, None, Option, nat_eq, ap, arith, eqb-true, refl, subst, sym}
use Rattle.std.specs.Bool.{⊤}
use Rattle.std.specs.Option.{IsSome, MatchOption, option_eq}
use Rattle.std.proofs.lemmas.Bool.{false≢true}
use Rattle.lemmas.proofs.Elements.{slice_get-take}
use Rattle.rmi_view.specs.Seen.{reply_seen}
use Rattle.rmm_spec.specs.declared.command.Command.{Command}
use Rattle.rmm_spec.specs.declared.event.Event.{Event}
use Rattle.rmm_spec.specs.declared.event.Event.TheVariants.{Called, Returned}
use Rattle.rmm_spec.specs.declared.reply.Reply.{Reply}
use Rattle.rmm_spec.specs.HistoryText.{History, IsHistory}
use Rattle.rmm_spec.specs.Linearization.{IsCalled, IsReturned}
use Rattle.spec_lemmas.proofs.Calls.{HasOnePlaces, same_given}
use Rattle.spec_lemmas.proofs.Places.{one_call_place}
use Rattle.verdict_laws.specs.Slices as slices
use Rattle.slicing.specs.declared.call_at.Answer.{Answer}
use Rattle.slicing.specs.declared.call_at.CallAt.{CallAt}
use Rattle.slicing.specs.declared.plan.Plan.{Plan}
use Rattle.slicing.specs.Calls.{HasAnswer, IsCallAt, back_of, events_to, place_back}
use Rattle.slicing.specs.Cuts.{ReturnFits}
use Rattle.slicing.specs.Plans.{number_at}

-- the call that is found at a place is made there
pub made_at : (events : List Event) (place : ℕ) (c : CallAt) (at : IsCallAt events place c) → IsCalled events place c.cpu c.number at.1.0
made_at events place c at = subst (λ (p : ℕ). IsCalled events p c.cpu c.number at.1.0) at.0 at.1.1.is_called

-- a call that is back before a place, and returned, returned before it
back_of_some : (events : List Event) (cpu number place : ℕ) (answer : Option Answer) → HasAnswer events cpu number answer → IsSome answer
    → place_back answer < place → slices.IsBack events cpu number place
back_of_some events cpu number place None has some before = absurd (false≢true some)
back_of_some events cpu number place (Some a) has some before = (a.place, reply_seen a.reply, has, before)

-- a kept call that returned before a place makes known what it may change
pub IsKnownAt-from_call : (events : List Event) (numbers : ℕ → Option ℕ) (called : ℕ) (c : CallAt) (place granule : ℕ)
    → IsCallAt events called c → IsSome (numbers called) → IsSome c.answer → back_of c < place
    → slices.may_change c.call granule ≡ true → slices.IsKnownAt events numbers place granule
IsKnownAt-from_call events numbers called c place granule at kept answered before changes =
    let is_call = at.1.1 in
    record {
      called = called;
      cpu = c.cpu;
      number = c.number;
      command = at.1.0;
      is_called = made_at events called c at;
      kept = kept;
      changes = subst (λ call. slices.may_change call granule ≡ true) is_call.call changes;
      back = back_of_some events c.cpu c.number place c.answer is_call.answer answered before;
    }

-- ---- what fits

-- numbers that a test finds one are one
pub same_numbers : (number other : Option ℕ) → option_eq nat_eq number other ≡ true → number ≡ other
same_numbers None None same = refl
same_numbers None (Some other) same = absurd (false≢true same)
same_numbers (Some number) None same = absurd (false≢true same)
same_numbers (Some number) (Some other) same = ap Some (eqb-true number other same)

-- a return fits where it has its call's number
pub ReturnFits-found : (history : History) → IsHistory history → (count : ℕ) (plan : Plan) (returned cpu number called : ℕ)
    (command : Command) (given : Reply) → IsCalled history.events called cpu number command → IsReturned history.events returned cpu number given
    → number_at plan returned ≡ number_at plan called → ReturnFits (events_to count history.events) plan returned
ReturnFits-found history is_history count plan returned cpu number called command given is_called is_returned same place c n more told here back =
    let both : Some (Returned cpu number given) ≡ Some (Returned c n told) =
    sym is_returned ∙ (slice_get-take count history.events returned (Returned c n told) back).1 in
    let same_cpu : cpu ≡ c = cc in
    let same_number : number ≡ n = cc in
    let made : IsCalled history.events called c n command =
    is_called ∙ λ i. Some (Called (same_cpu i) (same_number i) command) in
    same ∙ ap (number_at plan) (one_call_place c n history.events called place command more (is_history.records c) made
    (slice_get-take count history.events place (Called c n more) here).1)

-- ---- its answer

-- what holds of the answer, where there is one, holds of whatever is returned
pub each_given : (events : List Event) → HasOnePlaces events → (cpu number : ℕ) (P : Reply → Type 0) (answer : Option Answer)
    → HasAnswer events cpu number answer → MatchOption answer ⊤ (λ a. P (reply_seen a.reply))
    → (returned : ℕ) (given : Reply) → IsReturned events returned cpu number given → P given
each_given events one cpu number P None has holds returned given is = absurd (has (returned, given, is))
each_given events one cpu number P (Some a) has holds returned given is =
    subst P (same_given events one a.place returned cpu number (reply_seen a.reply) given has is) holds

-- a call without a return is back behind each place of a history, so one that is back before a place returned
pub IsBack-before : (events : List Event) → length events < 1000000 → (cpu number : ℕ) (answer : Option Answer)
    → HasAnswer events cpu number answer → (first place : ℕ) → place < length events → place_back answer < first → first ≤ place
    → slices.IsBack events cpu number place
IsBack-before events few cpu number None has first place within back before = absurd (omega arith)
IsBack-before events few cpu number (Some a) has first place within back before = (a.place, reply_seen a.reply, has, omega arith)
