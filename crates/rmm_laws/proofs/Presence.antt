-- What a run leaves has what rows read: it is sound, and each granule in use is tied to its realm.
use Rattle.rmm_laws.proofs.Common.{◌+◌, ◌<◌, ◌∙◌, ◌≡◌, Claim, IsRun, IsSound, IsTrue, JournalEntry, List, RealmRecord, Some, State, ap, arith, has_tag, inl, inr, is_some, opening, rec_at, subst, suc, sym, tag-has_tag, ℕ}
use Rattle.std.proofs.Common.{◌*◌, ◌/◌, ◌≤◌}
use Rattle.std.proofs.lemmas.Bool.{or_cases}
use Rattle.rmm_spec.specs.declared.tag.Tag.TheVariants.{RecAux}
use Rattle.rmm_spec.specs.HistoryText.{Config}
use Rattle.rmm_spec.specs.Ownership.{IsTied}
use Rattle.rmm_spec.specs.Sound.{has_aux}
use Rattle.rmm_spec.specs.Walk.{full, reach, table_number}
use Rattle.spec_lemmas.proofs.WalkLaws.{reach-is_walk}
use Rattle.rmm_laws.proofs.Entries.{leaf_fits, fitting_leaf, entry-leaf, entry-link}
use Rattle.rmm_laws.proofs.Searches.{rec_there, inside_runs}
use Rattle.rmm_laws.specs.Presence.{HasEntry, HasWhatRowsRead}
use Rattle.rmm_laws.proofs.Accepts.{sound-root}
use Rattle.rmm_laws.proofs.Isolation.{run-owned}
use Rattle.rmm_laws.proofs.Owners.{AreOwned}
use Rattle.rmm_laws.proofs.Tests.{there}
use Rattle.rmm_laws.proofs.Ties.{tied-tag, aux-has_aux}
use Rattle.lemmas.proofs.Options.{value_there}

-- a REC_AUX granule is tied to a realm by a REC
aux_there : (held : List Claim) (s : State) (granule : ℕ) → IsSound s → AreOwned held s → IsTrue (has_tag s granule RecAux)
    → (rec : ℕ) × IsTrue (has_aux granule (s.rec rec))
aux_there held s granule sound owned has =
    let tag = tag-has_tag s granule RecAux has in
    elim (owned.each granule) [
      | inl free ↦
          elim free.1 [ inl host ↦ absurd (let bad : _ ≡ _ = sym tag ∙ host in cc) | inr lent ↦ absurd (let bad : _ ≡ _ = sym tag ∙ lent in cc) ]
      | inr taken ↦
          (let c : Claim = taken.0 in
          let role : c.role ≡ RecAux =
          sym (tag-has_tag s c.granule c.role (tied-tag s c.role c.granule c.realm sound taken.3)) ∙ ap s.tag taken.1 ∙ tag in
          let tied = subst (λ r. IsTied r s c.granule c.realm) role taken.3 in
          (tied.0, subst (λ g. IsTrue (has_aux g (s.rec tied.0))) taken.1 (aux-has_aux s tied.0 c.granule tied.1 tied.2 tied.4)))
    ]

-- an entry of a table is a link or a leaf
entry_there : (s : State) → IsSound s → (rd level number : ℕ) → IsTrue (is_some (s.table rd level (number / 512))) → HasEntry s rd level number
entry_there s sound rd level number table =
    elim (or_cases (is_some (s.leaf rd level number)) (is_some (s.table rd (suc level) number)) (sound.leaves.complete rd level number table)) [
      | inl leaf ↦
          (let e = value_there (s.leaf rd level number) leaf in
          let fits = leaf_fits s sound rd level number e.0 e.1 in
          inr (e.0, e.1, fitting_leaf e.0 fits.0 level number fits.2, entry-leaf s sound rd level number e.0 e.1))
      | inr link ↦ (let t = value_there (s.table rd (suc level) number) link in inl (t.0, t.1, entry-link s sound rd level number t.0 t.1))
    ]

-- a walk in the realm's space ends at a table
walk_there : (s : State) → IsSound s → (rd ipa max : ℕ) (r : RealmRecord) → s.realm rd ≡ Some r → ipa < full r → r.start_level ≤ max
    → IsTrue (is_some (s.table rd (reach s rd ipa max) (table_number (reach s rd ipa max) ipa)))
walk_there s sound rd ipa max r is below within =
    let root = sound-root s rd ipa r sound is below in
    let walk = reach-is_walk s rd ipa r.start_level max r.root root.is_table within in
    there walk.1.is_table

-- a sound state has realms, RECs and tables where tags and maps say so
sound-present : (held : List Claim) (s : State) → IsSound s → AreOwned held s → HasWhatRowsRead s
sound-present held s sound owned = record {
  realms = record {
    realms = λ rd tag. sound.realms.tagged rd ∙ tag;
    measured = sound.realms.measured;
  };
  recs = record {
    recs = λ rec tag.
        let is = rec_there s rec sound tag in
        (rec_at s rec, is, sound.realms.tagged (rec_at s rec).owner ∙ sound.recs.owned rec (rec_at s rec) is);
    auxes = λ granule tag.
        let aux = aux_there held s granule sound owned tag in
        (aux.0, record { is = aux.1; alone = λ other has. sound.recs.apart other aux.0 granule has aux.1 });
    inside = λ cpu. inside_runs s cpu;
    alone = λ cpu rec other. sound.recs.alone rec other cpu;
    asked = sound.recs.asked;
  };
  tables = record {
    owned = λ rd level number granule at.
        let owner = sound.tables.owned rd level number granule at in there owner.1;
    entries = λ rd level number granule k at within.
        let up : (512 * number + k) / 512 ≡ number = omega (arith, within) in
        entry_there s sound rd level (512 * number + k) (rw up (there at));
    linked = λ rd level number granule r at is below.
        (sound.tables.below rd level number granule r at is below, entry-link s sound rd level number granule at);
    walked = walk_there s sound;
  };
}

-- no run comes to a state that lacks what rows read
pub run-present : (config : Config) (entries : List JournalEntry) (last : State) → IsRun (opening config) entries last → HasWhatRowsRead last
run-present config entries last run =
    let kept = run-owned config entries last run in
    sound-present _ last kept.0 kept.1
