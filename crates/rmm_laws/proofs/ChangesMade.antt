-- Granules retagged, and realms and RECs made and destroyed, keep states sound.
use Rattle.rmm_laws.proofs.SoundCommon.{◌==◌, ◌∙◌, ◌≡◌, Data, IsSound, IsTrue, None, Option, Rd, RealmRecord, Rec, RecAux, RecRecord, Rtt, Some, State, Tag, Undelegated, ap, both_ways, eq-eqb, eqb-true, false, false_from_ne_true, granule_from_tag, has_tag, inl, inr, realm_at, rec_at, refl, subst, sym, tag-has_tag, with_tag, ℕ}
use Rattle.std.proofs.lemmas.Bool.{ne_eqb, or_cases, or_from, or_left, or_right}
use Rattle.rmm_spec.specs.declared.change.Change.TheVariants.{RecMade, RecDestroyed}
use Rattle.rmm_spec.specs.declared.change.RealmUpdate.TheVariants as realm_update
use Rattle.rmm_spec.specs.declared.change.TagChange.{TagChange}
use Rattle.rmm_spec.specs.declared.tag.Tag.TheVariants.{Delegated}
use Rattle.rmm_spec.specs.Update.{with_realm, without_realm, with_root, with_rec, without_rec}
use Rattle.rmm_spec.specs.Change.{changed, new_realm, new_rec, realm_updated}
use Rattle.rmm_spec.specs.Sound.{has_aux}
use Rattle.rmm_spec.specs.Applicable.{CanRetag, CanMakeRealm, CanDestroyRealm, CanMakeRec, CanDestroyRec}
use Rattle.rmm_laws.proofs.Cases.{by_address, left_of}
use Rattle.rmm_laws.proofs.Retagged.{IsUnnamed, IsPlain, unnamed_by_tag, retagged_sound, free_retagged_sound}
use Rattle.rmm_laws.proofs.RealmMade.{put_realm_sound, taken_realm_sound}
use Rattle.rmm_laws.proofs.RecMade.{put_rec_sound, taken_rec_sound, tags_swapped}
use Rattle.rmm_laws.proofs.Records.{realm_updated_sound}
use Rattle.rmm_laws.proofs.Searches.{none_owned, none_has_vmid, realm_there, rec_there}
use Rattle.rmm_laws.proofs.Tags.{has_tag-here, has_tag-elsewhere, has_tag-beside, tags_apart}

-- ---- granules

-- a granule that is lent gets a tag for which no record has to stand
pub lent_retagged : (s : State) (a : ℕ) (tag : Tag) → IsSound s → IsTrue (has_tag s a Delegated) → IsPlain tag → IsSound (with_tag s a tag)
lent_retagged s a tag sound has gets = free_retagged_sound s a Delegated tag sound has (record { no_rd = refl; no_rec = refl }) refl refl refl gets

-- a granule is lent or taken back
pub retag_sound : (s : State) (change : TagChange) → IsSound s → CanRetag s change → IsSound (with_tag s change.granule change.tag)
retag_sound s change sound (inl lent) =
    free_retagged_sound s change.granule Undelegated change.tag sound lent.0 (record { no_rd = refl; no_rec = refl }) refl refl refl
    (rw lent.1 (record { no_rd = refl; no_rec = refl }))
retag_sound s change sound (inr back) =
    lent_retagged s change.granule change.tag sound back.0 (rw back.1 (record { no_rd = refl; no_rec = refl }))

-- ---- realms

-- the realm's granule and its root's are tagged in either order
realm_tags_swapped : (s : State) (rd root : ℕ) → (rd == root) ≡ false → (g : ℕ)
    → (with_tag (with_tag s root Rtt) rd Rd).tag g ≡ (with_tag (with_tag s rd Rd) root Rtt).tag g
realm_tags_swapped s rd root apart g =
    by_address (λ tag. tag ≡ (with_tag (with_tag s rd Rd) root Rtt).tag g) g rd Rd ((with_tag s root Rtt).tag g)
    (λ here. rw here (rw (apart, eq-eqb rd rd refl) refl)) (λ miss. rw miss refl)

-- a realm is made: its root is tagged first, then the rest at once
pub make_realm_sound : (s : State) (rd root width level vmid algo : ℕ) → IsSound s → CanMakeRealm s rd root width level vmid algo
    → IsSound (with_root (with_realm (with_tag (with_tag s rd Rd) root Rtt) rd (new_realm root width level vmid algo)) rd level root)
unfolding has_tag
make_realm_sound s rd root width level vmid algo sound can =
    let new : RealmRecord = new_realm root width level vmid algo in
    let rooted : State = with_tag s root Rtt in
    let unnamed : IsUnnamed s root = unnamed_by_tag s root Delegated sound can.root_tag refl refl refl in
    let rooted_sound : IsSound rooted = lent_retagged s root Rtt sound can.root_tag (record { no_rd = refl; no_rec = refl }) in
    let made : IsSound (with_root (with_realm (with_tag rooted rd Rd) rd new) rd level root) =
    put_realm_sound rooted rd root width level vmid algo rooted_sound record {
      rd_tag = has_tag-elsewhere s root rd Rtt Delegated can.apart ∙ can.rd_tag;
      root_tag = has_tag-here s root Rtt (granule_from_tag s root Delegated can.root_tag);
      fresh = λ other l n granule at. unnamed.table other l n granule at;
      space = can.space;
      unused = none_has_vmid s vmid sound can.unused;
    } in
    subst (λ (tag : ℕ → Tag). IsSound (record (with_root (with_realm s rd new) rd level root) { tag = tag }))
    (λ i g. realm_tags_swapped s rd root can.apart g i) made

-- a realm is destroyed, and then its root is freed
pub destroy_realm_sound : (s : State) (rd root : ℕ) → IsSound s → CanDestroyRealm s rd root
    → IsSound (without_realm (with_tag (with_tag s rd Delegated) root Delegated) rd)
unfolding has_tag
destroy_realm_sound s rd root sound can =
    let t : State = without_realm (with_tag s rd Delegated) rd in
    let r : RealmRecord = realm_at s rd in
    let realm : s.realm rd ≡ Some r = realm_there s rd sound can.rd_tag in
    let is_root : s.table rd r.start_level 0 ≡ Some root = sound.tables.roots rd r realm ∙ ap Some (sym can.is_root) in
    let root_tag : IsTrue (has_tag s root Rtt) = sound.tables.tagged rd r.start_level 0 root is_root in
    let gone : IsSound t = taken_realm_sound s rd sound can.rd_tag (none_owned s rd sound can.childless) in
    let tag_kept : has_tag t root Rtt ≡ has_tag s root Rtt =
    has_tag-beside s rd root Delegated Rtt (rw (tag-has_tag s rd Rd can.rd_tag) refl) refl in
    let still : IsTrue (has_tag t root Rtt) = tag_kept ∙ root_tag in
    retagged_sound t root Delegated gone (granule_from_tag t root Rtt still)
    (rw (tag-has_tag t root Rtt still) (record { no_rd = refl; no_rec = refl }))
    (record { no_rd = refl; no_rec = refl })
    record {
      aux0 = λ g c at. tags_apart t c.aux0 root RecAux Rtt (gone.recs.aux0 g c at) still refl;
      aux1 = λ g c at. tags_apart t c.aux1 root RecAux Rtt (gone.recs.aux1 g c at) still refl;
      table = λ other l n granule at. false_from_ne_true _ (λ same.
          let here : granule ≡ root = eqb-true granule root same in
          let left = left_of (other == rd) (s.table other l n) granule at in
          let root_there : s.table other l n ≡ Some root = left.1 ∙ ap Some here in
          let place = sound.tables.apart other l n rd r.start_level 0 root root_there is_root in
          both_ways (eq-eqb other rd place.0) left.0);
      page = λ other l n granule ripas at. tags_apart t granule root Data Rtt (gone.leaves.pages other l n granule ripas at) still refl;
    }

-- ---- RECs

-- a granule that nothing names is no REC's
unnamed_aux : (s : State) (g x a : ℕ) → IsUnnamed s a → a ≡ x → (found : Option RecRecord) → s.rec g ≡ found → has_aux x found ≡ false
unnamed_aux s g x a unnamed same None at = refl
unnamed_aux s g x a unnamed same (Some c) at = rw (← same) (or_from _ _ (unnamed.aux0 g c at) (unnamed.aux1 g c at))

-- a REC is made: its auxiliary granules are tagged first, and its realm counts it
pub make_rec_sound : (s : State) (rd rec mpidr flags aux0 aux1 : ℕ) → IsSound s → CanMakeRec s rd rec mpidr flags aux0 aux1
    → IsSound (changed s (RecMade rd rec mpidr flags aux0 aux1))
unfolding changed has_tag realm_at
make_rec_sound s rd rec mpidr flags aux0 aux1 sound can =
    let new : RecRecord = new_rec rd mpidr flags aux0 aux1 in
    let plain : IsPlain RecAux = record { no_rd = refl; no_rec = refl } in
    let first : State = with_tag s aux0 RecAux in
    let first_sound : IsSound first = lent_retagged s aux0 RecAux sound can.aux0_tag plain in
    let first_has : (g : ℕ) → (g == aux0) ≡ false → IsTrue (has_tag s g Delegated) → IsTrue (has_tag first g Delegated) =
    λ g apart has. has_tag-elsewhere s aux0 g RecAux Delegated apart ∙ has in
    let apart_back : (aux1 == aux0) ≡ false = ne_eqb aux1 aux0 (λ same. both_ways (eq-eqb aux0 aux1 (sym same)) can.apart) in
    let both : State = with_tag first aux1 RecAux in
    let aux1_first : IsTrue (has_tag first aux1 Delegated) = first_has aux1 apart_back can.aux1_tag in
    let both_sound : IsSound both = lent_retagged first aux1 RecAux first_sound aux1_first plain in
    let rd_first : has_tag first rd Rd ≡ has_tag s rd Rd =
    has_tag-beside s aux0 rd RecAux Rd (rw (tag-has_tag s aux0 Delegated can.aux0_tag) refl) refl in
    let rd_both : has_tag both rd Rd ≡ has_tag first rd Rd =
    has_tag-beside first aux1 rd RecAux Rd (rw (tag-has_tag first aux1 Delegated aux1_first) refl) refl in
    let rd_tag : IsTrue (has_tag both rd Rd) = rd_both ∙ rd_first ∙ can.rd_tag in
    let counted : State = with_realm both rd (realm_updated (realm_update.RecCounted mpidr flags) (realm_at both rd)) in
    let counted_sound : IsSound counted = realm_updated_sound both rd (realm_update.RecCounted mpidr flags) both_sound rd_tag in
    let aux0_here : IsTrue (has_tag first aux0 RecAux) = has_tag-here s aux0 RecAux (granule_from_tag s aux0 Delegated can.aux0_tag) in
    let aux0_named : IsUnnamed s aux0 = unnamed_by_tag s aux0 Delegated sound can.aux0_tag refl refl refl in
    let aux1_named : IsUnnamed s aux1 = unnamed_by_tag s aux1 Delegated sound can.aux1_tag refl refl refl in
    let made : IsSound (with_rec (with_tag counted rec Rec) rec new) =
    put_rec_sound counted rec new counted_sound record {
      tag = has_tag-elsewhere first aux1 rec RecAux Delegated can.apart1 ∙ first_has rec can.apart0 can.rec_tag;
      owned = rd_tag;
      aux0 = has_tag-elsewhere first aux1 aux0 RecAux RecAux can.apart ∙ aux0_here;
      aux1 = has_tag-here first aux1 RecAux (granule_from_tag first aux1 Delegated aux1_first);
      two = can.apart;
      unshared = λ g x has. elim (or_cases (aux0 == x) (aux1 == x) has) [
        | inl same ↦ unnamed_aux s g x aux0 aux0_named (eqb-true aux0 x same) (s.rec g) refl
        | inr same ↦ unnamed_aux s g x aux1 aux1_named (eqb-true aux1 x same) (s.rec g) refl
      ];
      cpu = refl;
      request = refl;
      pending = refl;
    } in
    subst (λ (tag : ℕ → Tag).
    IsSound (record (with_rec (with_realm s rd (realm_updated (realm_update.RecCounted mpidr flags) (realm_at s rd))) rec new) { tag = tag }))
    (λ i g. tags_swapped s rec aux0 aux1 can.apart0 can.apart1 g i) made

-- an auxiliary granule of a REC that is gone is named by nothing
aux_freed : (s : State) (rec x : ℕ) → IsSound s → IsSound (without_rec (with_tag s rec Delegated) rec) → IsTrue (has_aux x (s.rec rec))
    → IsTrue (has_tag (without_rec (with_tag s rec Delegated) rec) x RecAux) → IsUnnamed (without_rec (with_tag s rec Delegated) rec) x
aux_freed s rec x sound gone own tag =
    let t : State = without_rec (with_tag s rec Delegated) rec in
    let shared : (g : ℕ) (c : RecRecord) → t.rec g ≡ Some c → IsTrue (has_aux x (Some c)) → ⊥ = λ g c at has.
    (let left = left_of (g == rec) (s.rec g) c at in
    both_ways (eq-eqb g rec (sound.recs.apart g rec x (ap (has_aux x) left.1 ∙ has) own)) left.0) in
    record {
      aux0 = λ g c at. false_from_ne_true _ (λ same. shared g c at (or_left _ _ same));
      aux1 = λ g c at. false_from_ne_true _ (λ same. shared g c at (or_right _ _ same));
      table = λ other l n granule at. tags_apart t granule x Rtt RecAux (gone.tables.tagged other l n granule at) tag refl;
      page = λ other l n granule ripas at. tags_apart t granule x Data RecAux (gone.leaves.pages other l n granule ripas at) tag refl;
    }

-- a REC is destroyed, and then its auxiliary granules are freed, one at a time
pub destroy_rec_sound : (s : State) (rec aux0 aux1 : ℕ) → IsSound s → CanDestroyRec s rec aux0 aux1 → IsSound (changed s (RecDestroyed rec aux0 aux1))
unfolding changed has_tag
destroy_rec_sound s rec aux0 aux1 sound can =
    let old : RecRecord = rec_at s rec in
    let there : s.rec rec ≡ Some old = rec_there s rec sound can.rec_tag in
    let t : State = without_rec (with_tag s rec Delegated) rec in
    let gone : IsSound t = taken_rec_sound s rec sound can.rec_tag in
    let plain : IsPlain Delegated = record { no_rd = refl; no_rec = refl } in
    let kept : (g : ℕ) → IsTrue (has_tag s g RecAux) → IsTrue (has_tag t g RecAux) =
    λ g has. has_tag-beside s rec g Delegated RecAux (rw (tag-has_tag s rec Rec can.rec_tag) refl) refl ∙ has in
    let tag0 : IsTrue (has_tag t aux0 RecAux) = kept aux0 (rw can.is_aux0 (sound.recs.aux0 rec old there)) in
    let tag1 : IsTrue (has_tag t aux1 RecAux) = kept aux1 (rw can.is_aux1 (sound.recs.aux1 rec old there)) in
    let own0 : IsTrue (has_aux aux0 (s.rec rec)) = ap (has_aux aux0) there ∙ or_left _ _ (eq-eqb old.aux0 aux0 (sym can.is_aux0)) in
    let own1 : IsTrue (has_aux aux1 (s.rec rec)) = ap (has_aux aux1) there ∙ or_right _ _ (eq-eqb old.aux1 aux1 (sym can.is_aux1)) in
    let differ : (aux1 == aux0) ≡ false = ne_eqb aux1 aux0 (λ same.
    both_ways (eq-eqb old.aux0 old.aux1 (sym can.is_aux0 ∙ sym same ∙ can.is_aux1)) (sound.recs.two rec old there)) in
    let freed : State = with_tag t aux0 Delegated in
    let unnamed0 : IsUnnamed t aux0 = aux_freed s rec aux0 sound gone own0 tag0 in
    let unnamed1 : IsUnnamed t aux1 = aux_freed s rec aux1 sound gone own1 tag1 in
    let freed_sound : IsSound freed =
    retagged_sound t aux0 Delegated gone (granule_from_tag t aux0 RecAux tag0)
    (rw (tag-has_tag t aux0 RecAux tag0) (record { no_rd = refl; no_rec = refl })) plain unnamed0 in
    let still : IsTrue (has_tag freed aux1 RecAux) = has_tag-elsewhere t aux0 aux1 Delegated RecAux differ ∙ tag1 in
    retagged_sound freed aux1 Delegated freed_sound (granule_from_tag freed aux1 RecAux still)
    (rw (tag-has_tag freed aux1 RecAux still) (record { no_rd = refl; no_rec = refl })) plain
    (record { aux0 = unnamed1.aux0; aux1 = unnamed1.aux1; table = unnamed1.table; page = unnamed1.page })
