-- Realms, by any test of their record that no update of it changes: one that meets it does so until the realm is made or destroyed.
use Rattle.verdict_laws.proofs.Common.{◌≡◌, ℕ, ◌==◌, if◌then◌else◌, Bool, true, false, Option, Some, None, refl, sym, ◌∙◌, ap, unwrap_or, Call, Change, RealmMade, RealmDestroyed, RecMade, RecordsChanged, EntriesChanged, Replaced, RipasSet, RealmChange, RecChange, TagChange, Command, Reply, call_of, changed, realm_updated, with_realm_change, with_tag_change, no_realm, realm_at, RealmRecord, State, Step, reached_change, behind, by_address, with_records}
use Rattle.rmm_spec.specs.declared.call.Call.TheVariants as call
use Rattle.rmm_spec.specs.declared.change.RealmUpdate.{RealmUpdate}
use Rattle.rmm_spec.specs.declared.change.RealmUpdate.TheVariants as realm_update
use Rattle.rmm_laws.proofs.Keeps.{rec_change-rest, tag_change-rest}
use Rattle.verdict_laws.specs.Facts.{may_narrow}
use Rattle.verdict_laws.proofs.FactSteps.{IsDoneSo, step-has}

-- whether the change makes or destroys the realm
abbrev is_remade_by : Change → ℕ → Bool
is_remade_by (RealmMade other root width level vmid algo) rd = rd == other
is_remade_by (RealmDestroyed other root) rd = rd == other
is_remade_by _ rd = false

-- a call that can't make or destroy it makes no change that does
behind_leaves : (rd : ℕ) (s : State) (cpu : ℕ) (c : Call) → may_narrow c rd ≡ false
    → IsDoneSo (λ change. is_remade_by change rd ≡ false) (behind s cpu c).1
unfolding behind may_narrow reached_change
behind_leaves rd s cpu (call.RealmCreate other root its_width level vmid algo) keeps = keeps
behind_leaves rd s cpu (call.RealmDestroy other) keeps = keeps
behind_leaves rd s cpu (call.RttInitRipas other base top) keeps = λ end. refl
behind_leaves rd s cpu (call.RttSetRipas other rec base top) keeps = λ end. refl
behind_leaves rd s cpu _ keeps = refl

module _ (test : Option RealmRecord → Bool) (updated : (update : RealmUpdate) (found : Option RealmRecord) → test found ≡ true
    → test (Some (realm_updated update (unwrap_or found no_realm))) ≡ true) where
  module _ (rd : ℕ) (s : State) (is : test (s.realm rd) ≡ true) where
    -- where a record is updated, its own or another, it meets the test
    updated_met : (other : ℕ) (update : RealmUpdate)
        → test (if rd == other then Some (realm_updated update (realm_at s other)) else s.realm rd) ≡ true
    unfolding realm_at
    updated_met other update =
        by_address (λ found. test found ≡ true) rd other (Some (realm_updated update (realm_at s other))) (s.realm rd)
        (λ here. ap (λ g. test (Some (realm_updated update (unwrap_or (s.realm g) no_realm)))) (sym here) ∙ updated update (s.realm rd) is) (λ _. is)

    -- so it does where one may be
    replaced_met : (realm : Option RealmChange) → test ((with_realm_change s realm).realm rd) ≡ true
    replaced_met None = is
    replaced_met (Some change) = updated_met change.rd change.update

  -- so it does behind the tag of a page and the records of a realm and of a REC
  records_met : (rd : ℕ) (s : State) (page : Option TagChange) (realm : Option RealmChange) (rec : Option RecChange)
      → test (s.realm rd) ≡ true → test ((with_records s page realm rec).realm rd) ≡ true
  records_met rd s page realm rec is =
      let met = λ (realms : ℕ → Option RealmRecord). test (realms rd) in
      let t = with_tag_change s page in
      ap met (rec_change-rest (with_realm_change t realm) rec).3 ∙ replaced_met rd t (ap met (tag_change-rest s page).2 ∙ is) realm

  -- and behind a change that neither makes nor destroys the realm
  changed_met : (rd : ℕ) (s : State) (change : Change) → is_remade_by change rd ≡ false → test (s.realm rd) ≡ true
      → test ((changed s change).realm rd) ≡ true
  unfolding changed
  changed_met rd s (RealmMade other root its_width level vmid algo) keeps is = rw keeps is
  changed_met rd s (RealmDestroyed other root) keeps is = rw keeps is
  changed_met rd s (RecMade other rec mpidr flags aux0 aux1) keeps is = updated_met rd s is other (realm_update.RecCounted mpidr flags)
  changed_met rd s (RecordsChanged realm rec) keeps is = records_met rd s None realm rec is
  changed_met rd s (EntriesChanged other level (Replaced number entry) page realm rec) keeps is = records_met rd s page realm rec is
  changed_met rd s (EntriesChanged other level (RipasSet first last ripas) page realm rec) keeps is = records_met rd s page realm rec is
  changed_met rd s _ keeps is = is

  -- so a realm meets it behind a step, but for that of a call that may make or destroy it
  pub realm-kept : (rd : ℕ) (s new : State) (cpu : ℕ) (command : Command) (given : Reply) → Step s cpu command given new
      → may_narrow (call_of command) rd ≡ false → test (s.realm rd) ≡ true → test (new.realm rd) ≡ true
  realm-kept rd s new cpu command given step keeps is =
      step-has (λ t. test (t.realm rd) ≡ true) (λ change. is_remade_by change rd ≡ false) s new cpu command given
      (λ change other. changed_met rd s change other is) (λ _. is) (behind_leaves rd s cpu (call_of command) keeps) step
