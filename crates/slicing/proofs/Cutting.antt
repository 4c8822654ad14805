-- A plan whose events fit cuts a slice out of a history.
use Rattle.std.proofs.Common.{◌≡◌, ◌∙◌, ◌+◌, ◌<◌, ◌≤◌, ◌⊎◌, ℕ, Bool, true, false, List, Contains, Option, Some, None, length, ap, arith, inl, inr, subst, sym}
use Rattle.std.specs.Bool.{⊤}
use Rattle.std.specs.Option.{IsSome, MatchOption}
use Rattle.std.proofs.lemmas.Bool.{cases_lt, false≢true}
use Rattle.std.proofs.lemmas.Option.{slice_get_within}
use Rattle.rmi_view.specs.Seen.{reply_seen}
use Rattle.rmm_spec.specs.declared.command.Command.{Command}
use Rattle.rmm_spec.specs.declared.event.Event.{Event}
use Rattle.rmm_spec.specs.declared.event.Event.TheVariants.{Called}
use Rattle.rmm_spec.specs.declared.reply.Reply.{Reply}
use Rattle.rmm_spec.specs.Call.{call_of}
use Rattle.rmm_spec.specs.HistoryText.{History, IsHistory}
use Rattle.rmm_spec.specs.Linearization.{IsCalled, IsReturned}
use Rattle.rmm_spec.specs.Rows.{Needed}
use Rattle.rmm_spec.specs.Step.Terms.{named}
use Rattle.spec_lemmas.proofs.Calls.{HasOnePlaces, HasOnePlaces-from_history}
use Rattle.verdict_laws.specs.Looking.{is_looking_function}
use Rattle.verdict_laws.specs.Slices as slices
use Rattle.verdict_laws.proofs.CallOrder.{call_before_return, returns_before_later}
use Rattle.slicing.specs.declared.call_at.CallAt.{CallAt}
use Rattle.slicing.specs.declared.plan.Mark.{Mark}
use Rattle.slicing.specs.declared.plan.Plan.{Plan}
use Rattle.slicing.specs.Calls.{HasAnswer, IsCall}
use Rattle.slicing.specs.Cuts.{AreEarly, EventFits, FitsNumber, IsEnteredAt, IsKeptAt, IsLeftAt, KnowsOf}
use Rattle.slicing.specs.Plans.{AreNoted, entered_at, mark_of, number_at}
use Rattle.slicing.proofs.CallLaws.{IsBack-before, each_given}
use Rattle.slicing.proofs.PlanLaws.{entered_at-before, from-kept, number_at-before}

module _ (history : History) (is_history : IsHistory history) (plan : Plan)
    (noted : AreNoted plan) (early : AreEarly history.events plan)
    (fits : (place : ℕ) → plan.from ≤ place → place < length history.events → EventFits history.events plan place) where
  -- what the plan says, under short names
  abbrev events : List Event
  events = history.events

  abbrev marks : List Mark
  marks = plan.marks.items

  abbrev lent : List ℕ
  lent = plan.lent.items

  abbrev numbers : ℕ → Option ℕ
  numbers = number_at plan

  abbrev entered : ℕ → Bool
  entered = entered_at plan

  -- each call has one place, and one return
  one : HasOnePlaces history.events
  one = HasOnePlaces-from_history history is_history

  -- ---- what is asked of a call from the plan's first place on

  -- what is said of the call that is made at the place, and that it fits
  record Found (place cpu number : ℕ) (command : Command) : Type 0 where
    pub call : CallAt
    pub is_call : IsCall history.events command call
    pub at : call.place ≡ place
    pub of_cpu : call.cpu ≡ cpu
    pub numbered : call.number ≡ number
    pub fit : FitsNumber history.events plan (number_at plan place) call
    pub inside : IsEnteredAt history.events plan call

  -- each call that is made there fits
  found_at : (place cpu number : ℕ) (command : Command) → plan.from ≤ place → IsCalled events place cpu number command
      → Found place cpu number command
  found_at place cpu number command behind is_called =
      let found = (fits place behind (slice_get_within events place (Called cpu number command) is_called)).0 cpu number command is_called in
      record { call = found.0; is_call = found.1; at = found.2; of_cpu = found.3; numbered = found.4; fit = found.5; inside = found.6 }

  -- its answer is that of the call
  answer_at : (place cpu number : ℕ) (command : Command) (found : Found place cpu number command) → HasAnswer events cpu number found.call.answer
  answer_at place cpu number command found =
      subst (λ (c : ℕ). HasAnswer events c number found.call.answer) found.of_cpu
      (subst (λ (n : ℕ). HasAnswer events found.call.cpu n found.call.answer) found.numbered found.is_call.answer)

  -- a call that has a number may be kept
  kept_fits : (number : Option ℕ) (c : CallAt) → IsSome number → FitsNumber events plan number c → IsKeptAt events plan c
  kept_fits None c kept fit = absurd (false≢true kept)
  kept_fits (Some number) c kept fit = fit

  -- so a kept call is made no earlier than noted: of the granules that it may change, and of all
  kept_later : (place cpu number granule : ℕ) (command : Command) → IsCalled events place cpu number command → IsSome (numbers place)
      → slices.may_change (call_of command) granule ≡ true → (plan.first ≤ place) × ((mark_of marks granule).first ≤ place)
  kept_later place cpu number granule command is_called kept changes =
      let found = found_at place cpu number command (from-kept plan place kept) is_called in
      let fit = kept_fits (numbers place) found.call kept found.fit in (
        subst (λ (p : ℕ). plan.first ≤ p) found.at fit.first,
        subst (λ (p : ℕ). (mark_of marks granule).first ≤ p) found.at
            (fit.later granule (subst (λ call. slices.may_change call granule ≡ true) (sym found.is_call.call) changes)),
      )

  -- ---- what the laws ask

  -- a return has its call's number
  paired : (place returned cpu number : ℕ) (command : Command) (given : Reply) → IsCalled events place cpu number command
      → IsReturned events returned cpu number given → numbers returned ≡ numbers place
  paired place returned cpu number command given is_called is_returned = elim (cases_lt returned plan.from) [
    | inl before ↦
        let earlier = call_before_return history is_history cpu number place returned command given is_called is_returned in
        number_at-before plan returned before ∙ sym (number_at-before plan place (omega (arith, earlier, before)))
    | inr behind ↦
        (fits returned behind (slice_get_within events returned _ is_returned)).1 place cpu number command given is_called is_returned
  ]

  -- a CPU's first call is made outside of RECs
  first_outside : (place cpu : ℕ) (command : Command) → IsCalled events place cpu 0 command → entered place ≡ false
  first_outside place cpu command is_called = elim (cases_lt place plan.from) [
    | inl before ↦ entered_at-before plan place before
    | inr behind ↦
        let found = found_at place cpu 0 command behind is_called in
        ap entered (sym found.at) ∙ found.inside.0 found.numbered
  ]

  -- a CPU's call is made before its next
  next_later : (place returned later cpu number : ℕ) (command more : Command) (given : Reply) → IsCalled events place cpu number command
      → IsReturned events returned cpu number given → IsCalled events later cpu (number + 1) more → place < later
  next_later place returned later cpu number command more given is_called is_returned is_later =
      let back = returns_before_later history is_history cpu number (number + 1) (omega arith) (later, more, is_later) in
      let earlier = call_before_return history is_history cpu number place back.returned command back.given is_called back.is_returned in
      let there = one.one_call later back.called cpu (number + 1) more back.command is_later back.is_called in
      let before = back.before in
      omega (arith, earlier, before, there)

  -- another is made as the one before leaves it
  next_entered : (place returned later cpu number : ℕ) (command more : Command) (given : Reply) → IsCalled events place cpu number command
      → IsReturned events returned cpu number given → IsCalled events later cpu (number + 1) more
      → entered later ≡ slices.is_entered_by (numbers place) (call_of command) given (entered place)
  next_entered place returned later cpu number command more given is_called is_returned is_later = elim (cases_lt later plan.from) [
    | inl before ↦
        let earlier = next_later place returned later cpu number command more given is_called is_returned is_later in
        let first : place < plan.from = omega (arith, earlier, before) in
        entered_at-before plan later before
        ∙ λ i. slices.is_entered_by (sym (number_at-before plan place first) i) (call_of command) given (sym (entered_at-before plan place first) i)
    | inr behind ↦
        let found = found_at later cpu (number + 1) more behind is_later in
        ap entered (sym found.at)
        ∙ found.inside.1 place returned number command given found.numbered
        (subst (λ (c : ℕ). IsCalled events place c number command) (sym found.of_cpu) is_called)
        (subst (λ (c : ℕ). IsReturned events returned c number given) (sym found.of_cpu) is_returned)
  ]

  -- a kept call has a reply that is kept, knows what it names, and is made inside of a REC unless a host gives it
  kept_call : (place cpu number : ℕ) (command : Command) → IsCalled events place cpu number command → IsSome (numbers place)
      → slices.IsKeptCall events numbers lent entered place cpu number command
  unfolding KnowsOf
  kept_call place cpu number command is_called kept =
      let found = found_at place cpu number command (from-kept plan place kept) is_called in
      let c = found.call in
      let is_call = found.is_call in
      let fit = kept_fits (numbers place) c kept found.fit in
      let answer = answer_at place cpu number command found in
      record {
        replies = each_given events one cpu number (slices.IsKeptReply (call_of command)) c.answer answer
            (subst (λ call. MatchOption c.answer ⊤ (λ a. slices.IsKeptReply call (reply_seen a.reply))) is_call.call fit.usable);
        knows = λ n has. ways c found.at answer n (fit.knows n (subst (λ call. Contains (named call) n) (sym is_call.call) has));
        inside = λ not_host. ap entered (sym found.at)
            ∙ fit.inside (subst (λ call. slices.is_hosts call ≡ false) (sym is_call.call) not_host);
      }
    where
      ways : (c : CallAt) → c.place ≡ place → HasAnswer events cpu number c.answer → (n : Needed)
          → KnowsOf events plan c n
          → slices.IsKnownAt events numbers place n.granule
          ⊎ (((n.tag ≡ slices.unused_tag (slices.is_lent lent n.granule)) × slices.ShowsNamesIfBack events cpu number)
          ⊎ slices.IsUnusedAt events numbers place n.granule (slices.is_lent lent n.granule))
      ways c at answer n (inl known) = inl (subst (λ (p : ℕ). slices.IsKnownAt events numbers p n.granule) at known)
      ways c at answer n (inr (inl fresh)) =
          let shown = fresh noted in
          inr (inl (shown.0, each_given events one cpu number (λ given. slices.shows_names given ≡ true) c.answer answer shown.1))
      ways c at answer n (inr (inr unused)) =
          inr (inr (subst (λ (p : ℕ). slices.IsUnusedAt events numbers p n.granule (slices.is_lent lent n.granule)) at (unused noted early)))

  -- another only looks, was refused, or returned before what it may change is known to a kept call
  left_call : (place cpu number : ℕ) (command : Command) → IsCalled events place cpu number command → numbers place ≡ None
      → slices.IsLeftCall events numbers entered place cpu number command
  left_call place cpu number command is_called left = elim (cases_lt place plan.from) [
    | inl before ↦
        let back = early place cpu number command is_called before in
        inr (
          λ granule changes later other other_number more is_later kept its.
              let first = (kept_later later other other_number granule more is_later kept its).0 in
              let behind = back.3 in
              (back.0, back.1, back.2, omega (arith, first, behind)),
          entered_at-before plan place before,
        )
    | inr behind ↦
        let found = found_at place cpu number command behind is_called in
        ways found (subst (λ (n : Option ℕ). FitsNumber events plan n found.call) left found.fit)
  ]
    where
      ways : (found : Found place cpu number command) → IsLeftAt plan found.call → slices.IsLeftCall events numbers entered place cpu number command
      ways found (inl (inl looks)) = inl (inl (subst (λ function. is_looking_function function ≡ true) found.is_call.function looks))
      ways found (inl (inr (a, answered, refused))) =
          inl (inr (a.place, reply_seen a.reply, subst (HasAnswer events cpu number) answered (answer_at place cpu number command found), refused))
      ways found (inr (before, outside)) = inr (
        λ granule changes later other other_number more is_later kept its.
            IsBack-before events is_history.lines cpu number found.call.answer (answer_at place cpu number command found)
            (mark_of marks granule).first later (slice_get_within events later (Called other other_number more) is_later)
            (before granule (subst (λ call. slices.may_change call granule ≡ true) (sym found.is_call.call) changes))
            (kept_later later other other_number granule more is_later kept its).1,
        ap entered (sym found.at) ∙ outside,
      )

  -- so where the granules that are lent are the machine's, the plan cuts a slice out of the history
  pub IsCut-from_fits : slices.AreLent history.config.granules plan.lent.items
      → slices.IsCut history (number_at plan) plan.lent.items (entered_at plan)
  IsCut-from_fits granules = record {
    pairs = paired;
    inside = record { first = first_outside; next = next_entered };
    kept = kept_call;
    left = left_call;
    granules = granules;
  }
