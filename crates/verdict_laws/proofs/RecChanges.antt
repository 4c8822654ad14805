-- RECs, by any test of their record that none meets where none is: one that meets it does so until it is destroyed, or its record is updated so that
-- it doesn't.
use Rattle.verdict_laws.proofs.Common.{◌≡◌, ℕ, ◌==◌, true, false, Bool, Option, Some, None, IsTrue, if◌then◌else◌, is_some, refl, sym, ◌∙◌, ap, inl, inr, Ok, unwrap_or, cases_Bool, Accepted, Done, Reaches, Change, RecMade, RecDestroyed, RecordsChanged, EntriesChanged, Replaced, RipasSet, RealmChange, RecChange, TagChange, Command, Reply, Delegated, Rec, CanApply, call_of, class_of, changed, new_rec, rec_updated, with_realm_change, with_rec_change, with_tag_change, has_tag, no_rec, rec_at, is_accepted, IsSound, RecRecord, State, CarriesOut, Step, is_placed, outcome, IsReached, reached_change, both_ways, behind, by_address, with_records, step-refuses}
use Rattle.rmm_laws.proofs.Applies.{Applies}
use Rattle.rmm_laws.proofs.Keeps.{realm_change-rest, tag_change-rest}
use Rattle.rmm_laws.proofs.Tags.{has_tag-other}
use Rattle.verdict_laws.proofs.SliceOwners.{rec_replaced}
use Rattle.verdict_laws.proofs.TagFacts.{carried_by}

module _ (test : Option RecRecord → Bool) (absent : test None ≡ false) where
  -- what meets it is there
  pub met_there : (found : Option RecRecord) → test found ≡ true → found ≡ Some (unwrap_or found no_rec)
  met_there None met = both_ways met absent
  met_there (Some rec) met = refl

  module _ (rec : ℕ) (s : State) (met : test (s.rec rec) ≡ true) where
    -- so its record meets it
    pub met_record : test (Some (rec_at s rec)) ≡ true
    unfolding rec_at
    met_record = ap test (sym (met_there (s.rec rec) met)) ∙ met

    -- where the REC's record is replaced it meets the test still
    abbrev pub Keeps : Option RecChange → Type 0
    Keeps None = Unit {0}
    Keeps (Some change) = rec ≡ change.rec → test (Some (rec_updated change.update (rec_at s rec))) ≡ true

    -- so it is with a change, and that doesn't destroy the REC
    abbrev pub Stays : Change → Type 0
    Stays (RecDestroyed other aux0 aux1) = (rec == other) ≡ false
    Stays change = Keeps (rec_replaced change)

    -- and with what is done, whatever end a reply gives
    abbrev pub StaysDone : Accepted → Type 0
    StaysDone (Done words change) = Stays change
    StaysDone (Reaches stretch) = (top : ℕ) → IsReached s stretch top → Stays (reached_change stretch top)

    -- one that is put elsewhere is not this
    put_other : (other : ℕ) (new : RecRecord) → (rec ≡ other → test (Some new) ≡ true)
        → test (if rec == other then Some new else s.rec rec) ≡ true
    put_other other new here = by_address (λ found. test found ≡ true) rec other (Some new) (s.rec rec) here (λ _. met)

    -- behind a record that is replaced so it meets the test
    replaced_met : (t : State) → t.rec ≡ s.rec → (change : Option RecChange) → Keeps change → test ((with_rec_change t change).rec rec) ≡ true
    unfolding rec_at
    replaced_met t same None keeps = ap (λ recs. test (recs rec)) same ∙ met
    replaced_met t same (Some change) keeps =
        ap (λ recs. test ((with_rec_change (record t { rec = recs }) (Some change)).rec rec)) same
        ∙ put_other change.rec (rec_updated change.update (rec_at s change.rec)) (λ here.
        ap (λ g. test (Some (rec_updated change.update (rec_at s g)))) (sym here) ∙ keeps here)

    -- and behind the tag of a page and a realm's record
    records_met : (page : Option TagChange) (realm : Option RealmChange) (change : Option RecChange) → Keeps change
        → test ((with_records s page realm change).rec rec) ≡ true
    records_met page realm change =
        let t = with_tag_change s page in
        replaced_met (with_realm_change t realm) ((realm_change-rest t realm).3 ∙ (tag_change-rest s page).3) change

    -- no REC is made where one is
    none_made : IsSound s → (other : ℕ) → IsTrue (has_tag s other Delegated) → rec ≡ other → ⊥
    none_made sound other waits here =
        both_ways (ap is_some (met_there (s.rec rec) met))
        (ap (λ g. is_some (s.rec g)) here ∙ sound.recs.tagged other ∙ has_tag-other s other Delegated Rec waits refl)

    -- so it meets it behind a change that leaves it so
    changed_met : (change : Change) → IsSound s → CanApply s change → Stays change → test ((changed s change).rec rec) ≡ true
    unfolding changed
    changed_met (RecMade rd other mpidr flags aux0 aux1) sound can stays =
        put_other other (new_rec rd mpidr flags aux0 aux1) (λ here. absurd (none_made sound other can.rec_tag here))
    changed_met (RecDestroyed other aux0 aux1) sound can stays = rw stays met
    changed_met (RecordsChanged realm change) sound can stays = records_met None realm change stays
    changed_met (EntriesChanged rd level (Replaced number entry) page realm change) sound can stays = records_met page realm change stays
    changed_met (EntriesChanged rd level (RipasSet first last ripas) page realm change) sound can stays = records_met page realm change stays
    changed_met _ sound can stays = met

    -- and behind what is done
    carried_met : (new : State) (given : Reply) (found : Accepted) → IsSound s → StaysDone found → Applies s found
        → CarriesOut (Ok found) s given new → test (new.rec rec) ≡ true
    carried_met new given (Done words change) sound stays can carried = rw carried.1 (changed_met change sound can stays)
    carried_met new given (Reaches stretch) sound stays can (top, (reached, is_ok, is_next)) =
        rw is_next (changed_met (reached_change stretch top) sound (can top reached) (stays top reached))

    -- so it does behind a step, where what its call does leaves it so
    pub rec-kept : (new : State) (cpu : ℕ) (command : Command) (given : Reply) → IsSound s → Step s cpu command given new
        → (is_placed s cpu (class_of (call_of command)) ≡ true → StaysDone (behind s cpu (call_of command)).1) → test (new.rec rec) ≡ true
    rec-kept new cpu command given sound step stays = elim (cases_Bool (is_accepted given)) [
      | inl accepted ↦
          (let c = call_of command in
          let carried = carried_by s cpu command given new (outcome s cpu c) sound accepted refl step in
          carried_met new given (behind s cpu c).1 sound (stays carried.placed) carried.can carried.done)
      | inr refused ↦ ap (λ (t : State). test (t.rec rec)) (step-refuses s new cpu command given step refused) ∙ met
    ]
