-- Calls that left granules unused, in the words of the laws.
use Rattle.std.proofs.Common.{◌≡◌, ◌∙◌, ◌<◌, ◌≤◌, ℕ, Bool, true, List, Some, None, Option, arith, inl, inr, subst, sym}
use Rattle.rmi_view.specs.Seen.{reply_seen}
use Rattle.rmm_spec.specs.declared.command.Command.{Command}
use Rattle.rmm_spec.specs.declared.event.Event.{Event}
use Rattle.rmm_spec.specs.Linearization.{IsCalled}
use Rattle.rmm_spec.specs.Ownership.{is_accepted}
use Rattle.verdict_laws.specs.Slices as slices
use Rattle.slicing.specs.declared.call_at.Answer.{Answer}
use Rattle.slicing.specs.declared.call_at.CallAt.{CallAt}
use Rattle.slicing.specs.declared.plan.Plan.{Plan}
use Rattle.slicing.specs.declared.done.Done.{Done}
use Rattle.slicing.specs.Calls.{HasAnswer, IsCallAt}
use Rattle.slicing.specs.Cuts.{AreEarly}
use Rattle.slicing.specs.Plans.{number_at}
use Rattle.slicing.specs.Unused.{AreQuiet, BeginsBefore, IsAloneAt, IsDone, IsNoLater}
use Rattle.slicing.proofs.CallLaws.{made_at}

-- a call that was carried out and returned before a place is one of the laws'
pub IsDone-from_call : (events : List Event) (called place : ℕ) (c : CallAt) (a : Answer) → IsCallAt events called c → c.answer ≡ Some a
    → is_accepted (reply_seen a.reply) ≡ true → a.place < place
    → IsDone events called place (record { cpu = c.cpu; number = c.number; call = c.call; reply = a.reply; returned = a.place })
IsDone-from_call events called place c a at answered accepted before =
    let is_call = at.1.1 in (
      record {
        called = called;
        cpu = c.cpu;
        number = c.number;
        command = at.1.0;
        is_called = made_at events called c at;
        returned = a.place;
        given = reply_seen a.reply;
        is_returned = subst (HasAnswer events c.cpu c.number) answered is_call.answer;
        accepted = accepted;
        back = before;
      },
      (λ i. called),
      (λ i. a.place),
      sym is_call.call,
      (λ i. reply_seen a.reply),
      (λ i. c.cpu),
      (λ i. c.number),
    )

-- what was made before the plan's first place returned before any place that isn't before all kept calls
pub early_back : (events : List Event) (plan : Plan) (last : ℕ) → AreEarly events plan → plan.first ≤ last
    → (place cpu number : ℕ) (command : Command) → IsCalled events place cpu number command → place < plan.from → slices.IsBack events cpu number last
early_back events plan last early first place cpu number command is_called before =
    let back = early place cpu number command is_called before in
    let behind = back.3 in
    (back.0, back.1, back.2, omega (arith, first, behind))

-- so it is no later than the last call on a granule, or there is no such call
pub early_no_later : (events : List Event) (plan : Plan) (last : Option ℕ) → AreEarly events plan → BeginsBefore plan last
    → (place cpu number : ℕ) (command : Command) → IsCalled events place cpu number command → place < plan.from
    → IsNoLater events last place cpu number
early_no_later events plan None early begins place cpu number command is_called before = absurd (omega (arith, begins, before))
early_no_later events plan (Some last) early begins place cpu number command is_called before =
    inr (early_back events plan last early begins place cpu number command is_called before)

-- ---- granules

-- where no call may be later than none, the granule is untouched
pub IsUntouched-quiet : (events : List Event) (plan : Plan) (granule : ℕ) → AreQuiet events plan granule None → AreEarly events plan
    → slices.IsUntouched events (number_at plan) granule
IsUntouched-quiet events plan granule quiet early place cpu number command is_called left changes =
    elim (quiet early place cpu number command is_called left changes) [ inl nothing ↦ nothing | inr later ↦ absurd later ]

-- a call that was carried out leaves it unused, where no later one may have changed it
pub IsGivenUp-done : (events : List Event) (plan : Plan) (giver place granule : ℕ) (lent : Bool) (done : Done) → IsDone events giver place done
    → slices.leaves_unused done.call (reply_seen done.reply) granule lent ≡ true → AreQuiet events plan granule (Some giver) → AreEarly events plan
    → slices.IsGivenUp events (number_at plan) place granule lent
IsGivenUp-done events plan giver place granule lent done is leaves quiet early = record {
  giver = is.0;
  leaves = (λ i. slices.leaves_unused (is.3 i) (is.4 i) granule lent) ∙ leaves;
  last = subst (λ last. slices.IsLastOn events (number_at plan) granule last) (sym is.1) (quiet early);
}

-- and what one made with it another ended, where nothing else made or ended that
pub IsPartBack-done : (events : List Event) (plan : Plan) (maker ender place granule : ℕ) (made ended : Done) → IsDone events maker ender made
    → IsDone events ender place ended → slices.makes_part made.call ended.call granule ≡ true → AreQuiet events plan granule (Some maker)
    → (AreEarly events plan → (other : ℕ) → IsAloneAt events maker ender ended.returned ended.call other) → AreEarly events plan
    → slices.IsPartBack events (number_at plan) place granule
IsPartBack-done events plan maker ender place granule made ended is_made is_ended makes quiet alone early =
    let d = is_made.0 in
    record {
      ender = is_ended.0;
      maker = record {
        called = d.called;
        cpu = d.cpu;
        number = d.number;
        command = d.command;
        is_called = d.is_called;
        returned = d.returned;
        given = d.given;
        is_returned = d.is_returned;
        accepted = d.accepted;
        back = subst (λ place. d.returned < place) (sym is_ended.1) d.back;
      };
      makes = (λ i. slices.makes_part (is_made.3 i) (is_ended.3 i) granule) ∙ makes;
      last = subst (λ last. slices.IsLastOn events (number_at plan) granule last) (sym is_made.1) (quiet early);
      alone = λ other. rw (is_made.1, is_ended.1, is_ended.2, is_ended.3) (alone early other);
    }
