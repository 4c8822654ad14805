-- VMIDs that no realm has but one: so it is behind the call that makes that realm, until another realm may get the VMID.
use Rattle.verdict_laws.proofs.Common.{◌≡◌, ℕ, ◌*◌, ◌==◌, ◌&&◌, if◌then◌else◌, Bool, true, false, not, IsTrue, is_some, Option, Some, None, refl, sym, ◌∙◌, ap, subst, eqb-true, eq-eqb, Result, Ok, Err, and_from, and_parts, false_from_ne_true, ne_eqb, not-true, Accepted, Done, Reaches, Call, Change, RealmMade, RealmDestroyed, RecMade, RecordsChanged, EntriesChanged, Replaced, RipasSet, RealmChange, RecChange, TagChange, Command, Refusal, Reply, Rd, CanApply, call_of, changed, realm_updated, with_realm_change, with_tag_change, Config, has_tag, is_vmid_used, realm_at, is_accepted, IsSound, RealmRecord, State, opening, CarriesOut, Step, outcome, reached_change, both_ways, behind, tag-has_tag, by_address, with_records, outcome-leads, realm_there, Fact, holds}
use Rattle.std.proofs.Common.{◌/◌}
use Rattle.rmm_spec.specs.declared.call.Call.TheVariants as call
use Rattle.rmm_spec.specs.declared.change.RealmUpdate.{RealmUpdate}
use Rattle.rmm_spec.specs.declared.change.RealmUpdate.TheVariants.{RecCounted}
use Rattle.rmm_spec.specs.Applicable.{CanChangeRealm}
use Rattle.rmm_spec.specs.Change.{new_realm}
use Rattle.rmm_spec.specs.Lookup.{has_vmid}
use Rattle.spec_lemmas.proofs.Placed.{any_below-from, passing_below}
use Rattle.rmm_laws.proofs.Applies.{Applies}
use Rattle.rmm_laws.proofs.Commands.{accepted_applies, whole_command}
use Rattle.rmm_laws.proofs.Keeps.{rec_change-rest}
use Rattle.rmm_laws.proofs.Records.{updated_like}
use Rattle.rmm_laws.proofs.Runs.{step_sound}
use Rattle.rmm_laws.proofs.Searches.{realm_granule}
use Rattle.verdict_laws.specs.declared.facts.Fact.TheVariants.{Tagged}
use Rattle.verdict_laws.specs.Denying.{gives_none}
use Rattle.verdict_laws.specs.Facts.{is_shared, is_tag, makes_vmid, may_share}
use Rattle.verdict_laws.proofs.FactSteps.{IsDoneSo, step-has}
use Rattle.verdict_laws.proofs.TagFacts.{tag-from_is_tag, tag-is_tag}
use Rattle.lemmas.proofs.Options.{none_of}
use Rattle.spec_lemmas.proofs.Lookups.{vmid_owner, granule-number}

-- ---- in a state

-- no realm at another address has the VMID
abbrev IsSole : (ℕ → Option RealmRecord) → ℕ → ℕ → Type 0
IsSole realms rd vmid = (g : ℕ) → (rd == g) ≡ false → has_vmid vmid (realms g) ≡ false

module _ (s : State) (rd vmid : ℕ) where
  -- whether a granule's realm shares the VMID
  abbrev shares : ℕ → Bool
  shares k = not (rd == k * 4096) && has_vmid vmid (s.realm (k * 4096))

  -- where no realm elsewhere has it, none is found that shares it
  unshared : IsSole s.realm rd vmid → not (is_shared s rd vmid) ≡ true
  unshared sole = ap not (false_from_ne_true (is_shared s rd vmid) (λ any.
      let found = passing_below s.config.granules shares any in
      let parts = and_parts (not (rd == found.0 * 4096)) (has_vmid vmid (s.realm (found.0 * 4096))) found.2 in
      both_ways parts.1 (sole (found.0 * 4096) (not-true _ parts.0))))

  -- and where none is found, none has it, as realms stand at granules
  sole_there : IsSound s → not (is_shared s rd vmid) ≡ true → IsSole s.realm rd vmid
  sole_there sound is g apart = false_from_ne_true (has_vmid vmid (s.realm g)) (λ has.
      let number = granule-number s.config.granules g (realm_granule s sound g (ap is_some (vmid_owner vmid (s.realm g) has).1)) in
      both_ways (any_below-from s.config.granules shares (g / 4096) number.0
      (subst (λ a. (not (rd == a) && has_vmid vmid (s.realm a)) ≡ true) number.1 (and_from _ _ (ap not apart) has)))
      (not-true (is_shared s rd vmid) is))

  -- where that one isn't there either, no realm has it
  pub vmid-unused : IsSound s → not (is_shared s rd vmid) ≡ true → s.realm rd ≡ None → is_vmid_used s vmid ≡ false
  unfolding is_vmid_used
  vmid-unused sound is none = false_from_ne_true _ (λ any.
      let found = passing_below s.config.granules (λ k. has_vmid vmid (s.realm (k * 4096))) any in
      both_ways found.2 (sole_there sound is (found.0 * 4096) (ne_eqb rd (found.0 * 4096) (λ same.
      both_ways found.2 (ap (has_vmid vmid) (ap s.realm (sym same) ∙ none))))))

-- no realm is where a fact says so
pub none-given : (s : State) (rd : ℕ) → IsSound s → (fact : Fact) → holds fact s ≡ true → gives_none rd fact ≡ true → s.realm rd ≡ None
none-given s rd sound (Tagged granule tag) is gives =
    let parts = and_parts (rd == granule) (not (is_tag tag Rd)) gives in
    none_of (s.realm rd) (sound.realms.tagged rd ∙ false_from_ne_true (has_tag s rd Rd) (λ has.
    both_ways (tag-is_tag tag Rd (sym (tag-from_is_tag (s.tag granule) tag is) ∙ ap s.tag (sym (eqb-true rd granule parts.0))
    ∙ tag-has_tag s rd Rd has)) (not-true (is_tag tag Rd) parts.1)))
none-given s rd sound _ is gives = both_ways gives refl

-- ---- behind a change

-- whether the change makes a realm at another address that has the VMID
abbrev is_shared_by : Change → ℕ → ℕ → Bool
is_shared_by (RealmMade other root width level its_vmid algo) rd vmid = vmid == its_vmid && not (rd == other)
is_shared_by _ rd vmid = false

module _ (rd vmid : ℕ) (s : State) (sound : IsSound s) (sole : IsSole s.realm rd vmid) where
  -- a record that is updated keeps its VMID
  updated_sole : (other : ℕ) (update : RealmUpdate) → IsTrue (has_tag s other Rd)
      → IsSole (λ g. if g == other then Some (realm_updated update (realm_at s other)) else s.realm g) rd vmid
  updated_sole other update tag g apart =
      by_address (λ found. has_vmid vmid found ≡ false) g other (Some (realm_updated update (realm_at s other))) (s.realm g) (λ here.
      ap (λ (v : ℕ). v == vmid) (updated_like update (realm_at s other)).vmid
      ∙ sym (ap (has_vmid vmid) (ap s.realm here ∙ realm_there s other sound tag)) ∙ sole g apart) (λ _. sole g apart)

  -- so it is where one may be
  replaced_sole : (page : Option TagChange) (realm : Option RealmChange) → CanChangeRealm s realm
      → IsSole (with_realm_change (with_tag_change s page) realm).realm rd vmid
  unfolding realm_at
  replaced_sole None None can = sole
  replaced_sole (Some page) None can = sole
  replaced_sole None (Some change) can = updated_sole change.rd change.update can.0
  replaced_sole (Some page) (Some change) can = updated_sole change.rd change.update can.0

  -- so it is behind the tag of a page and the records of a realm and of a REC
  records_sole : (page : Option TagChange) (realm : Option RealmChange) (rec : Option RecChange) → CanChangeRealm s realm
      → IsSole (with_records s page realm rec).realm rd vmid
  records_sole page realm rec can =
      subst (λ (realms : ℕ → Option RealmRecord). IsSole realms rd vmid)
      (sym (rec_change-rest (with_realm_change (with_tag_change s page) realm) rec).3) (replaced_sole page realm can)

  -- a change that makes no such realm gives the VMID to none
  changed_sole : (change : Change) → CanApply s change → is_shared_by change rd vmid ≡ false → IsSole (changed s change).realm rd vmid
  unfolding changed
  changed_sole (RealmMade other root width level its_vmid algo) can keeps = λ g apart.
      by_address (λ found. has_vmid vmid found ≡ false) g other (Some (new_realm root width level its_vmid algo)) (s.realm g) (λ here.
      ne_eqb its_vmid vmid (λ same. both_ways (and_from (vmid == its_vmid) (not (rd == other)) (eq-eqb vmid its_vmid (sym same))
      (ap not (ap (λ (a : ℕ). rd == a) (sym here) ∙ apart))) keeps)) (λ _. sole g apart)
  changed_sole (RealmDestroyed other root) can keeps = λ g apart.
      by_address (λ found. has_vmid vmid found ≡ false) g other None (s.realm g) (λ _. refl) (λ _. sole g apart)
  changed_sole (RecMade other rec mpidr flags aux0 aux1) can keeps = updated_sole other (RecCounted mpidr flags) can.rd_tag
  changed_sole (RecordsChanged realm rec) can keeps = records_sole None realm rec can.0
  changed_sole (EntriesChanged other level (Replaced number entry) page realm rec) can keeps = records_sole page realm rec can.2
  changed_sole (EntriesChanged other level (RipasSet first last ripas) page realm rec) can keeps = records_sole page realm rec can.2
  changed_sole _ can keeps = sole

-- ---- behind a call

module _ (rd vmid : ℕ) (s : State) (cpu : ℕ) where
  -- REALM_CREATE gives it to the realm
  behind_makes : (c : Call) → makes_vmid c rd vmid ≡ true
      → IsDoneSo (λ change. has_vmid vmid ((changed s change).realm rd) ≡ true) (behind s cpu c).1
  unfolding behind makes_vmid changed
  behind_makes (call.RealmCreate other root width level its_vmid algo) makes =
      let parts = and_parts (rd == other) (vmid == its_vmid) makes in
      rw parts.0 (eq-eqb its_vmid vmid (sym (eqb-true vmid its_vmid parts.1)))
  behind_makes _ makes = both_ways makes refl

  -- a call that can't give it to another makes no change that does
  behind_leaves : (c : Call) → may_share c rd vmid ≡ false → IsDoneSo (λ change. is_shared_by change rd vmid ≡ false) (behind s cpu c).1
  unfolding behind may_share reached_change
  behind_leaves (call.RealmCreate other root width level its_vmid algo) keeps = keeps
  behind_leaves (call.RttInitRipas other base top) keeps = λ end. refl
  behind_leaves (call.RttSetRipas other rec base top) keeps = λ end. refl
  behind_leaves _ keeps = refl

-- ---- steps

-- in the opening no realm has it
pub vmid-opening : (rd vmid : ℕ) (config : Config) → not (is_shared (opening config) rd vmid) ≡ true
unfolding opening
vmid-opening rd vmid config = unshared (opening config) rd vmid (λ g apart. refl)

-- where the call makes a realm with it and is accepted, no other has it, as no two realms have one VMID
pub vmid-made : (rd vmid : ℕ) (s new : State) (cpu : ℕ) (command : Command) (given : Reply) → IsSound s → Step s cpu command given new
    → is_accepted given ≡ true → makes_vmid (call_of command) rd vmid ≡ true → not (is_shared new rd vmid) ≡ true
vmid-made rd vmid s new cpu command given sound step accepted makes =
    let apart = (step_sound s cpu command given new sound step).realms.apart in
    let own = vmid_owner vmid (new.realm rd) (step-has (λ t. has_vmid vmid (t.realm rd) ≡ true) _ s new cpu command given (λ change is. is)
    (both_ways accepted) (behind_makes rd vmid s cpu (call_of command) makes) step) in
    unshared new rd vmid (λ g elsewhere. false_from_ne_true (has_vmid vmid (new.realm g)) (λ has.
    let other = vmid_owner vmid (new.realm g) has in
    both_ways (eq-eqb rd g (apart rd g own.0 other.0 own.1 other.1 (own.2 ∙ sym other.2))) elsewhere))

-- what a call does that is carried out gives it to no other realm, where no change that is made does
done_sole : (rd vmid : ℕ) (s new : State) (given : Reply) → IsSound s → IsSole s.realm rd vmid → (found : Accepted) → Applies s found
    → IsDoneSo (λ change. is_shared_by change rd vmid ≡ false) found → CarriesOut (Ok found) s given new → IsSole new.realm rd vmid
done_sole rd vmid s new given sound sole (Done words change) can keeps carried =
    subst (λ (t : State). IsSole t.realm rd vmid) (sym carried.1) (changed_sole rd vmid s sound sole change can keeps)
done_sole rd vmid s new given sound sole (Reaches stretch) can keeps (top, (reached, is_ok, is_next)) =
    subst (λ (t : State). IsSole t.realm rd vmid) (sym is_next)
    (changed_sole rd vmid s sound sole (reached_change stretch top) (can top reached) (keeps top))

-- no other realm gets it, but by a call that may give it to one
pub vmid-left : (rd vmid : ℕ) (s new : State) (cpu : ℕ) (command : Command) (given : Reply) → IsSound s → Step s cpu command given new
    → may_share (call_of command) rd vmid ≡ false → not (is_shared s rd vmid) ≡ true → not (is_shared new rd vmid) ≡ true
vmid-left rd vmid s new cpu command given sound step keeps is = unshared new rd vmid (by (outcome s cpu (call_of command)) refl step)
  where
    by : (found : Result Accepted Refusal) → outcome s cpu (call_of command) ≡ found → CarriesOut found s given new → IsSole new.realm rd vmid
    by (Err refusal) leads carried = subst (λ (t : State). IsSole t.realm rd vmid) (sym carried.1) (sole_there s rd vmid sound is)
    by (Ok found) leads carried =
        let c = call_of command in
        done_sole rd vmid s new given sound (sole_there s rd vmid sound is) found
        (accepted_applies s cpu c found sound (whole_command command) leads)
        (subst (IsDoneSo (λ change. is_shared_by change rd vmid ≡ false)) (outcome-leads s cpu c (Ok found) leads).1
        (behind_leaves rd vmid s cpu c keeps)) carried
