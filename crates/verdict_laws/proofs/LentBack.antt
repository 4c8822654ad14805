-- A lending that is carried out behind a call which may as well come behind it: both come the other way round.
use Rattle.verdict_laws.proofs.Common.{◌≡◌, ℕ, Bool, true, false, not, ◌||◌, IsTrue, [], Option, Some, None, inl, inr, refl, sym, ◌∙◌, ap, subst, Result, Ok, Err, and_parts, not-true, Accepted, Done, Reaches, Change, Unchanged, Retagged, RealmMade, RealmDestroyed, RecMade, RecDestroyed, RecordsChanged, TableMade, TableDestroyed, EntriesChanged, Replaced, RipasSet, TagChange, Command, Refusal, Reply, Tag, Undelegated, Delegated, Rd, Rec, RecAux, Rtt, CanApply, call_of, changed, with_tag_change, State, IsSound, is_named, is_accepted, CarriesOut, Step, outcome, reached_change, named, tag-has_tag, by_address, lent}
use Rattle.rmm_spec.specs.declared.change.EntryChange.{EntryChange}
use Rattle.rmm_spec.specs.Applicable.{CanChangeEntries, CanRetag}
use Rattle.rmm_spec.specs.Update.{with_tag}
use Rattle.rmm_spec.specs.Rows.{done}
use Rattle.spec_lemmas.proofs.TagLaws.{with_tag-restored}
use Rattle.rmm_laws.proofs.Cases.{at_itself}
use Rattle.rmm_laws.proofs.Commands.{accepted_applies, whole_command}
use Rattle.rmm_laws.proofs.Keeps.{records-tag}
use Rattle.rmm_laws.proofs.Runs.{step_sound}
use Rattle.rmm_laws.proofs.Ties.{IsUnused}
use Rattle.verdict_laws.specs.Apart.{frees_unnamed, is_delegation, lets_lend}
use Rattle.verdict_laws.proofs.Lending.{IsLending, IsLending-from_lent, lending_same, lent_done}
use Rattle.verdict_laws.proofs.SparedCalls.{FreesOthers, step_leaves, step_swapped, unused-is_part}

-- ---- what is the host's behind a step was unused before

-- where another tag than the host's is put, what is the host's was so before
put-host : (s : State) (granule other : ℕ) (tag : Tag) → ¬ (tag ≡ Undelegated) → (with_tag s other tag).tag granule ≡ Undelegated
    → s.tag granule ≡ Undelegated
put-host s granule other tag used host =
    by_address (λ t. t ≡ Undelegated → s.tag granule ≡ Undelegated) granule other tag (s.tag granule) (λ _ is. absurd (used is)) (λ _ is. is) host

-- where a granule is lent or taken back
retag-host : (s : State) (granule : ℕ) (change : TagChange) → CanRetag s change
    → (with_tag s change.granule change.tag).tag granule ≡ Undelegated → IsUnused (s.tag granule)
retag-host s granule change (inl lent) host =
    inl (put-host s granule change.granule change.tag (λ is. let bad : Delegated ≡ Undelegated = sym lent.1 ∙ is in cc) host)
retag-host s granule change (inr back) host =
    by_address (λ t. t ≡ Undelegated → IsUnused (s.tag granule)) granule change.granule change.tag (s.tag granule)
    (λ here _. inr (ap s.tag here ∙ tag-has_tag s change.granule Delegated back.0)) (λ _ is. inl is) host

-- where a page is given to entries or taken from them
page-host : (s : State) (granule rd level : ℕ) (entries : EntryChange) (page : Option TagChange) → CanChangeEntries s rd level entries page
    → (with_tag_change s page).tag granule ≡ Undelegated → s.tag granule ≡ Undelegated
page-host s granule rd level (Replaced number entry) None can host = host
page-host s granule rd level (Replaced number entry) (Some page) (_, inl given) host =
    put-host s granule page.granule page.tag (λ is. let bad = sym given.1 ∙ is in cc) host
page-host s granule rd level (Replaced number entry) (Some page) (_, inr taken) host =
    put-host s granule page.granule page.tag (λ is. let bad = sym taken.0 ∙ is in cc) host
page-host s granule rd level (RipasSet first last ripas) page can host =
    sym (ap (λ (p : Option TagChange). (with_tag_change s p).tag granule) can.1) ∙ host

-- where a change of each kind is made
changed-host : (s : State) (granule : ℕ) (change : Change) → CanApply s change → (changed s change).tag granule ≡ Undelegated
    → IsUnused (s.tag granule)
unfolding changed
changed-host s granule Unchanged can host = inl host
changed-host s granule (Retagged change) can host = retag-host s granule change can host
changed-host s granule (RealmMade rd root width level vmid algo) can host =
    inl (put-host s granule rd Rd (λ bad. cc) (put-host (with_tag s rd Rd) granule root Rtt (λ bad. cc) host))
changed-host s granule (RealmDestroyed rd root) can host =
    inl (put-host s granule rd Delegated (λ bad. cc) (put-host (with_tag s rd Delegated) granule root Delegated (λ bad. cc) host))
changed-host s granule (RecMade rd rec mpidr flags aux0 aux1) can host =
    let one = with_tag s rec Rec in
    inl (put-host s granule rec Rec (λ bad. cc) (put-host one granule aux0 RecAux (λ bad. cc)
    (put-host (with_tag one aux0 RecAux) granule aux1 RecAux (λ bad. cc) host)))
changed-host s granule (RecDestroyed rec aux0 aux1) can host =
    let one = with_tag s rec Delegated in
    inl (put-host s granule rec Delegated (λ bad. cc) (put-host one granule aux0 Delegated (λ bad. cc)
    (put-host (with_tag one aux0 Delegated) granule aux1 Delegated (λ bad. cc) host)))
changed-host s granule (RecordsChanged realm rec) can host = inl (sym (ap (λ (tags : ℕ → Tag). tags granule) (records-tag s None realm rec)) ∙ host)
changed-host s granule (TableMade rd level number rtt entry) can host = inl (put-host s granule rtt Rtt (λ bad. cc) host)
changed-host s granule (TableDestroyed rd level number rtt entry) can host = inl (put-host s granule rtt Delegated (λ bad. cc) host)
changed-host s granule (EntriesChanged rd level (Replaced number entry) page realm rec) can host =
    inl (page-host s granule rd level (Replaced number entry) page can.1
    (sym (ap (λ (tags : ℕ → Tag). tags granule) (records-tag s page realm rec)) ∙ host))
changed-host s granule (EntriesChanged rd level (RipasSet first last ripas) page realm rec) can host =
    inl (page-host s granule rd level (RipasSet first last ripas) page can.1
    (sym (ap (λ (tags : ℕ → Tag). tags granule) (records-tag s page realm rec)) ∙ host))

-- in a step
step-host : (old new : State) (cpu granule : ℕ) (command : Command) (given : Reply) → IsSound old → Step old cpu command given new
    → new.tag granule ≡ Undelegated → IsUnused (old.tag granule)
step-host old new cpu granule command given sound step host = by (outcome old cpu (call_of command)) refl step
  where
    before : (left : State) → new ≡ left → left.tag granule ≡ Undelegated
    before left is = sym (ap (λ (s : State). s.tag granule) is) ∙ host

    by : (found : Result Accepted Refusal) → outcome old cpu (call_of command) ≡ found → CarriesOut found old given new → IsUnused (old.tag granule)
    by (Err refused) is carried = inl (before old carried.1)
    by (Ok (Done words change)) is carried =
        changed-host old granule change (accepted_applies old cpu (call_of command) (Done words change) sound (whole_command command) is)
        (before (changed old change) carried.1)
    by (Ok (Reaches stretch)) is carried =
        let top = carried.0 in
        changed-host old granule (reached_change stretch top)
        (accepted_applies old cpu (call_of command) (Reaches stretch) sound (whole_command command) is top carried.1.0)
        (before (changed old (reached_change stretch top)) carried.1.2)

-- ---- the other way round

module _ (old middle new : State) (cpu other : ℕ) (one two : Command) (given answered : Reply) (granule : ℕ)
    (sound : IsSound old) (differ : ¬ (other ≡ cpu)) (lending : IsLending granule (call_of two)) (accepted : is_accepted answered ≡ true)
    (unnamed : is_named (named (call_of one)) granule ≡ false) (frees : FreesOthers old granule (call_of one))
    (first : Step old cpu one given middle) (second : Step middle other two answered new) where
  -- what the lending leads to, by which it is carried out behind the call
  lends : (middle.tag granule ≡ lending.needed)
      × (outcome middle other (call_of two) ≡ Ok (done [] (Retagged (record { granule = granule; tag = lending.put }))))
  lends = lent_done middle new other granule (call_of two) answered lending accepted second

  -- so it gives its reply, and puts its tag
  carried : CarriesOut (Ok (done [] (Retagged (record { granule = granule; tag = lending.put })))) middle answered new
  carried = subst (λ (r : Result Accepted Refusal). CarriesOut r middle answered new) lends.1 second

  -- it is carried out before the call as well
  earlier : Step old other two answered (with_tag old granule lending.put)
  unfolding changed
  earlier =
      let leaves = step_leaves old granule other cpu sound differ one given middle unnamed frees first in
      subst (λ (r : Result Accepted Refusal). CarriesOut r old answered (with_tag old granule lending.put))
      (sym lends.1 ∙ lending_same granule other (call_of two) old middle lending leaves) (carried.0, refl)

  -- and then the call, which leads to the same state
  turned : (between : State) × Step old other two answered between × Step between cpu one given new
  unfolding changed
  turned =
      let tag = old.tag granule in
      let between = with_tag old granule lending.put in
      let has : between.tag granule ≡ lending.put = at_itself granule lending.put tag in
      let still = step_sound old other two answered between sound earlier in
      let apart : FreesOthers between granule (call_of one) =
      inr (unused-is_part (between.tag granule) (subst IsUnused (sym has) lending.put_unused)) in
      let from : Step (with_tag between granule tag) cpu one given middle =
      subst (λ (s : State). Step s cpu one given middle) (sym (with_tag-restored old granule lending.put)) first in
      let parts = step_swapped between granule other cpu still differ one tag given middle unnamed apart from in
      let left = step_leaves between granule other cpu still differ one given parts.0 unnamed apart parts.1 in
      let same : new ≡ parts.0 =
      carried.1 ∙ ap (λ (s : State). with_tag s granule lending.put) parts.2
      ∙ ap (with_tag (with_tag parts.0 granule tag) granule) (sym (left.tag ∙ has)) ∙ with_tag-restored parts.0 granule tag in
      (between, earlier, subst (λ (s : State). Step between cpu one given s) (sym same) parts.1)

-- a lending that is carried out comes before a call that may as well come behind it
pub lent_turned : (old middle new : State) (cpu other : ℕ) (one two : Command) (given answered : Reply) (granule : ℕ)
    → IsSound old → ¬ (cpu ≡ other) → lent (call_of two) ≡ Some granule → is_accepted answered ≡ true
    → lets_lend (call_of one) (call_of two) granule ≡ true → Step old cpu one given middle → Step middle other two answered new
    → (between : State) × Step old other two answered between × Step between cpu one given new
lent_turned old middle new cpu other one two given answered granule sound differ lends accepted lets first second =
    turned old middle new cpu other one two given answered granule sound (λ same. differ (sym same)) lending accepted
    (not-true names parts.0) (frees (is_delegation (call_of two)) refl parts.1) first second
  where
    names : Bool
    names = is_named (named (call_of one)) granule

    lending : IsLending granule (call_of two)
    lending = IsLending-from_lent granule (call_of two) lends

    parts : IsTrue (not names) × IsTrue (is_delegation (call_of two) || not (frees_unnamed (call_of one)))
    parts = and_parts (not names) (is_delegation (call_of two) || not (frees_unnamed (call_of one))) lets

    frees : (delegates : Bool) → is_delegation (call_of two) ≡ delegates → (delegates || not (frees_unnamed (call_of one))) ≡ true
        → FreesOthers old granule (call_of one)
    frees true is _ =
        inr (unused-is_part (old.tag granule) (step-host old middle cpu granule one given sound first
        ((lent_done middle new other granule (call_of two) answered lending accepted second).0 ∙ lending.delegates is)))
    frees false is none = inl (not-true (frees_unnamed (call_of one)) none)
