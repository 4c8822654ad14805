-- A call that lends a granule or takes it back, and a call that neither names the granule nor gives it back, come either way round.
use Rattle.verdict_laws.proofs.Common.{◌≡◌, ℕ, ◌==◌, Bool, true, false, not, ◌&&◌, if◌then◌else◌, [], inl, inr, Some, None, refl, sym, ◌∙◌, ap, subst, Result, Ok, Err, and_parts, not-true, same_Some, Accepted, Call, Retagged, Command, Refusal, Misplaced, Reply, Tag, Undelegated, Delegated, call_of, changed, State, IsSound, is_named, is_accepted, has_tag, is_inside, CarriesOut, Step, outcome, answer_of, named, words_of, both_ways, tag-has_tag, lent}
use Rattle.rmm_spec.specs.declared.call.Call.TheVariants as call
use Rattle.rmm_spec.specs.declared.condition.Condition.TheVariants.{GranState, OwnOutside}
use Rattle.rmm_spec.specs.declared.refusal.Refusal.TheVariants.{Input}
use Rattle.rmm_spec.specs.Update.{with_tag}
use Rattle.rmm_spec.specs.Lookup.{tag_number, is_granule}
use Rattle.rmm_spec.specs.Rows.{done}
use Rattle.rmm_spec.specs.Step.{commands}
use Rattle.rmm_spec.specs.Step.Terms.{class_of}
use Rattle.rmm_laws.proofs.RowLaws.{refusal-refuses}
use Rattle.rmm_laws.proofs.Ties.{IsUnused}
use Rattle.verdict_laws.specs.Apart.{frees_unnamed, is_apart_from, is_delegation}
use Rattle.verdict_laws.proofs.SparedCalls.{FreesOthers, Leaves, step_leaves, step_swapped, unused-is_part}

-- what a lending leads to, by whether the CPU is inside of a REC, and whether the granule has the tag that is needed
abbrev lending_found : Bool → Bool → ℕ → Tag → Result Accepted Refusal
lending_found inside has granule tag =
    if not inside then (if has then Ok (done [] (Retagged (record { granule = granule; tag = tag }))) else Err (Input GranState))
    else Err (Misplaced OwnOutside)

-- A call that lends the granule: the tag that it needs, the tag that it puts, and what it leads to in each state.
pub record IsLending (granule : ℕ) (c : Call) : Type 0 where
  pub needed : Tag
  pub needed_unused : IsUnused needed
  pub delegates : is_delegation c ≡ true → needed ≡ Undelegated
  pub put : Tag
  pub put_unused : IsUnused put
  pub found : (s : State) (cpu : ℕ) → outcome s cpu c ≡ lending_found (is_inside s cpu) (has_tag s granule needed) granule put

-- each call that lends it is one
pub IsLending-from_lent : (granule : ℕ) (c : Call) → lent c ≡ Some granule → IsLending granule c
unfolding lent is_delegation outcome answer_of commands class_of words_of named
IsLending-from_lent granule (call.GranuleDelegate g) lends = record {
  needed = Undelegated;
  needed_unused = inl refl;
  delegates = λ _. refl;
  put = Delegated;
  put_unused = inr refl;
  found = λ s cpu. rw (← same_Some g granule lends) refl;
}
IsLending-from_lent granule (call.GranuleUndelegate g) lends = record {
  needed = Delegated;
  needed_unused = inr refl;
  delegates = λ delegates. both_ways delegates refl;
  put = Undelegated;
  put_unused = inl refl;
  found = λ s cpu. rw (← same_Some g granule lends) refl;
}
IsLending-from_lent granule _ lends = absurd (let bad : None ≡ Some granule = lends in cc)

-- so the same where the granule's tag is, and the CPU is inside of a REC where it was
pub lending_same : (granule cpu : ℕ) (c : Call) (s t : State) → IsLending granule c → Leaves s granule cpu t → outcome t cpu c ≡ outcome s cpu c
unfolding has_tag
lending_same granule cpu c s t lending leaves =
    lending.found t cpu
    ∙ (λ i. lending_found (leaves.inside i) (is_granule (leaves.config i).granules granule && tag_number (leaves.tag i) == tag_number lending.needed)
    granule lending.put)
    ∙ sym (lending.found s cpu)

-- what is refused isn't carried out
pub refused_undone : {A : Type 0} (s new : State) (given : Reply) (refused : Refusal) → is_accepted given ≡ true
    → CarriesOut (Err refused) s given new → A
refused_undone s new given refused accepted carried = both_ways (sym (ap is_accepted carried.0) ∙ accepted) (refusal-refuses refused)

-- where a lending is carried out, the granule had the tag that it needs, and what it leads to puts the other
pub lent_done : (s new : State) (cpu granule : ℕ) (c : Call) (given : Reply) (lending : IsLending granule c) → is_accepted given ≡ true
    → CarriesOut (outcome s cpu c) s given new
    → (s.tag granule ≡ lending.needed) × (outcome s cpu c ≡ Ok (done [] (Retagged (record { granule = granule; tag = lending.put }))))
lent_done s new cpu granule c given lending accepted carried = by (is_inside s cpu) (has_tag s granule lending.needed) refl (lending.found s cpu)
  where
    undone : {A : Type 0} (refused : Refusal) → outcome s cpu c ≡ Err refused → A
    undone refused is = refused_undone s new given refused accepted (subst (λ (r : Result Accepted Refusal). CarriesOut r s given new) is carried)

    by : (inside has : Bool) → has_tag s granule lending.needed ≡ has → outcome s cpu c ≡ lending_found inside has granule lending.put
        → (s.tag granule ≡ lending.needed) × (outcome s cpu c ≡ Ok (done [] (Retagged (record { granule = granule; tag = lending.put }))))
    by true has is found = undone (Misplaced OwnOutside) found
    by false true is found = (tag-has_tag s granule lending.needed is, found)
    by false false is found = undone (Input GranState) found

module _ (old middle new : State) (cpu other : ℕ) (one two : Command) (given answered : Reply) (granule : ℕ)
    (sound : IsSound old) (differ : ¬ (cpu ≡ other)) (lends : lent (call_of one) ≡ Some granule)
    (unnamed : is_named (named (call_of two)) granule ≡ false) (frees : FreesOthers old granule (call_of two))
    (first : Step old cpu one given middle) (second : Step middle other two answered new) where
  -- what the lending leads to, it leads to behind the other call
  again : (between : State) → Step old other two answered between
      → CarriesOut (outcome old cpu (call_of one)) between given new → Step between cpu one given new
  again between earlier carried =
      subst (λ (r : Result Accepted Refusal). CarriesOut r between given new)
      (sym (lending_same granule cpu (call_of one) old between (IsLending-from_lent granule (call_of one) lends)
      (step_leaves old granule cpu other sound differ two answered between unnamed frees earlier))) carried

  -- where it is refused
  refused_turned : (refused : Refusal) → outcome old cpu (call_of one) ≡ Err refused
      → (between : State) × Step old other two answered between × Step between cpu one given new
  refused_turned refused is =
      let carried : CarriesOut (Err refused) old given middle = subst (λ (r : Result Accepted Refusal). CarriesOut r old given middle) is first in
      let earlier : Step old other two answered new = subst (λ (s : State). Step s other two answered new) carried.1 second in (
        new,
        earlier,
        again new earlier (subst (λ (r : Result Accepted Refusal). CarriesOut r new given new) (sym is) (carried.0, refl)),
      )

  -- where it is accepted
  accepted_turned : (tag : Tag) → outcome old cpu (call_of one) ≡ Ok (done [] (Retagged (record { granule = granule; tag = tag })))
      → (between : State) × Step old other two answered between × Step between cpu one given new
  unfolding changed
  accepted_turned tag is =
      let found : Result Accepted Refusal = Ok (done [] (Retagged (record { granule = granule; tag = tag }))) in
      let carried : CarriesOut found old given middle = subst (λ (r : Result Accepted Refusal). CarriesOut r old given middle) is first in
      let later : Step (with_tag old granule tag) other two answered new =
      subst (λ (s : State). Step s other two answered new) carried.1 second in
      let parts = step_swapped old granule cpu other sound differ two tag answered new unnamed frees later in (
        parts.0,
        parts.1,
        again parts.0 parts.1 (subst (λ (r : Result Accepted Refusal). CarriesOut r parts.0 given new) (sym is) (carried.0, parts.2)),
      )

  -- by which of them it is
  turned_by : (inside has : Bool) (tag : Tag) → outcome old cpu (call_of one) ≡ lending_found inside has granule tag
      → (between : State) × Step old other two answered between × Step between cpu one given new
  turned_by true has tag is = refused_turned (Misplaced OwnOutside) is
  turned_by false true tag is = accepted_turned tag is
  turned_by false false tag is = refused_turned (Input GranState) is

  -- both come the other way round
  turned : (between : State) × Step old other two answered between × Step between cpu one given new
  turned =
      let lending = IsLending-from_lent granule (call_of one) lends in
      turned_by (is_inside old cpu) (has_tag old granule lending.needed) lending.put (lending.found old cpu)

-- where the other call is apart from the granule
pub lending_turned : (old middle new : State) (cpu other : ℕ) (one two : Command) (given answered : Reply) (granule : ℕ)
    → IsSound old → ¬ (cpu ≡ other) → lent (call_of one) ≡ Some granule → is_apart_from (call_of two) granule ≡ true
    → Step old cpu one given middle → Step middle other two answered new
    → (between : State) × Step old other two answered between × Step between cpu one given new
lending_turned old middle new cpu other one two given answered granule sound differ lends apart =
    let names = is_named (named (call_of two)) granule in
    let parts = and_parts (not names) (not (frees_unnamed (call_of two))) apart in
    turned old middle new cpu other one two given answered granule sound differ lends
    (not-true names parts.0) (inl (not-true (frees_unnamed (call_of two)) parts.1))

-- where the lending is carried out, and the other call doesn't name the granule
pub done_lending_turned : (old middle new : State) (cpu other : ℕ) (one two : Command) (given answered : Reply) (granule : ℕ)
    → IsSound old → ¬ (cpu ≡ other) → lent (call_of one) ≡ Some granule → is_accepted given ≡ true
    → is_named (named (call_of two)) granule ≡ false → Step old cpu one given middle → Step middle other two answered new
    → (between : State) × Step old other two answered between × Step between cpu one given new
done_lending_turned old middle new cpu other one two given answered granule sound differ lends accepted unnamed first second =
    let lending = IsLending-from_lent granule (call_of one) lends in
    let needed = (lent_done old middle cpu granule (call_of one) given lending accepted first).0 in
    turned old middle new cpu other one two given answered granule sound differ lends unnamed
    (inr (unused-is_part (old.tag granule) (subst IsUnused (sym needed) lending.needed_unused))) first second
