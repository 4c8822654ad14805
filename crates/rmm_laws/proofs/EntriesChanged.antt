-- Tables made and destroyed, and entries changed, keep states sound.
use Rattle.rmm_laws.proofs.SoundCommon.{◌-◌, ◌/◌, ◌==◌, ◌∙◌, ◌≡◌, Assigned, Data, Entry, IsLeafOf, IsSound, IsTrue, None, Option, RealmRecord, RecAux, Ripas, Rtt, Some, State, ap, arith, both_ways, entry_at, eq-eqb, eqb-true, false, false_from_ne_true, granule_from_tag, has_tag, inl, inr, is_some, is_table, realm_at, rec_at, refl, subst, suc, sym, tag-has_tag, with_tag, zero, ℕ}
use Rattle.std.proofs.Common.{unwrap_or}
use Rattle.rmm_spec.specs.declared.change.EntryChange.{EntryChange}
use Rattle.rmm_spec.specs.declared.change.EntryChange.TheVariants.{Replaced, RipasSet}
use Rattle.rmm_spec.specs.declared.change.RealmChange.{RealmChange}
use Rattle.rmm_spec.specs.declared.change.RecChange.{RecChange}
use Rattle.rmm_spec.specs.declared.change.TagChange.{TagChange}
use Rattle.rmm_spec.specs.declared.tag.Tag.TheVariants.{Delegated}
use Rattle.rmm_spec.specs.Update.{with_table, without_table, with_leaf}
use Rattle.rmm_spec.specs.Lookup.{no_realm}
use Rattle.rmm_spec.specs.Walk.{is_assigned}
use Rattle.rmm_spec.specs.Change.{realm_updated, with_realm_change, with_rec_change, with_tag_change, with_entry_change}
use Rattle.rmm_spec.specs.Applicable.{CanMakeTable, CanDestroyTable, CanReplace, CanChangeEntries, CanChangeRealm, CanChangeRec}
use Rattle.rmm_laws.proofs.Cases.{by_address, by_spot, nothing_there, spot_itself}
use Rattle.rmm_laws.proofs.Entries.{leaf_there, leaf_fits, childless_unused, vacant_above}
use Rattle.rmm_laws.proofs.Kept.{leaf_of_width}
use Rattle.rmm_laws.proofs.ChangesMade.{lent_retagged}
use Rattle.rmm_laws.proofs.LeavesChanged.{with_leaf_sound, with_ripas_sound}
use Rattle.rmm_laws.proofs.Records.{records_sound, updated_like}
use Rattle.rmm_laws.proofs.Retagged.{IsUnnamed, unnamed_by_tag, retagged_sound}
use Rattle.rmm_laws.proofs.Searches.{realm_there, realm_at-is}
use Rattle.rmm_laws.proofs.TableMade.{put_table_sound, taken_table_sound}
use Rattle.rmm_laws.proofs.Tags.{has_tag-here, tags_apart}

-- ---- tables

-- a table is made in a granule that was lent
pub make_table_sound : (s : State) (rd level number rtt : ℕ) (entry : Entry) → IsSound s → CanMakeTable s rd level number rtt entry
    → IsSound (with_table (with_tag s rtt Rtt) rd level number rtt entry)
unfolding has_tag
make_table_sound s rd zero number rtt entry sound can = absurd (omega (arith, can.below_root))
make_table_sound s rd (suc up) number rtt entry sound can =
    let r : RealmRecord = realm_at s rd in
    let back : suc up - 1 ≡ up = omega arith in
    let parent : IsTrue (is_some (s.table rd up (number / 512))) = subst (λ l. IsTrue (is_some (s.table rd l (number / 512)))) back can.parent in
    let is_entry : entry ≡ entry_at s rd up number = subst (λ l. entry ≡ entry_at s rd l number) back can.is_entry in
    let leaf : s.leaf rd up number ≡ Some entry =
    leaf_there s sound rd up number parent (sym (ap is_table is_entry) ∙ can.leaf) ∙ ap Some (sym is_entry) in
    let fits = leaf_fits s sound rd up number entry leaf in
    let unnamed : IsUnnamed s rtt = unnamed_by_tag s rtt Delegated sound can.rtt_tag refl refl refl in
    put_table_sound (with_tag s rtt Rtt) rd up number rtt entry r (lent_retagged s rtt Rtt sound can.rtt_tag (record { no_rd = refl; no_rec = refl }))
    record {
      realm = realm_there s rd sound can.rd_tag;
      above = omega (arith, can.below_root);
      place = can.place;
      tag = has_tag-here s rtt Rtt (granule_from_tag s rtt Delegated can.rtt_tag);
      fresh = λ other l n held at. unnamed.table other l n held at;
      leaf = leaf;
      vacant = vacant_above entry fits.0 up number (omega (arith, can.place.last)) fits.2;
    }

-- a table is destroyed, and then its granule is freed
pub destroy_table_sound : (s : State) (rd level number rtt : ℕ) (entry : Entry) → IsSound s → CanDestroyTable s rd level number rtt entry
    → IsSound (without_table (with_tag s rtt Delegated) rd level number entry)
unfolding has_tag
destroy_table_sound s rd zero number rtt entry sound can = absurd (omega (arith, can.below_root))
destroy_table_sound s rd (suc up) number rtt entry sound can =
    let r : RealmRecord = realm_at s rd in
    let back : suc up - 1 ≡ up = omega arith in
    let t : State = without_table s rd (suc up) number entry in
    let tag : IsTrue (has_tag s rtt Rtt) = sound.tables.tagged rd (suc up) number rtt can.there in
    let gone : IsSound t = taken_table_sound s rd up number rtt entry r sound record {
      realm = realm_there s rd sound can.rd_tag;
      above = omega (arith, can.below_root);
      there = can.there;
      childless = childless_unused s sound rd (suc up) number can.unused;
      vacant = can.vacant;
      kind = subst (λ l. IsLeafOf entry r l number) back can.kind;
    } in
    retagged_sound t rtt Delegated gone (granule_from_tag s rtt Rtt tag) (rw (tag-has_tag s rtt Rtt tag) (record { no_rd = refl; no_rec = refl }))
    (record { no_rd = refl; no_rec = refl })
    record {
      aux0 = λ g c at. tags_apart t c.aux0 rtt RecAux Rtt (gone.recs.aux0 g c at) tag refl;
      aux1 = λ g c at. tags_apart t c.aux1 rtt RecAux Rtt (gone.recs.aux1 g c at) tag refl;
      table = λ other l n held. by_spot (λ found. found ≡ Some held → (held == rtt) ≡ false) rd (suc up) number other l n None (s.table other l n)
          (λ _ _ _ none. nothing_there refl none)
          (λ miss at. false_from_ne_true _ (λ same.
          let place = sound.tables.apart other l n rd (suc up) number rtt (at ∙ ap Some (eqb-true held rtt same)) can.there in
          both_ways (rw (place.0, place.1, place.2) (spot_itself rd (suc up) number)) miss));
      page = λ other l n held ripas at. tags_apart t held rtt Data Rtt (gone.leaves.pages other l n held ripas at) tag refl;
    }

-- ---- entries

-- an entry that is assigned is one that names its page
unassigned_apart : {A : Type 0} (e : Entry) (ripas : Ripas) (granule : ℕ) → is_assigned e ≡ false → e ≡ Assigned ripas granule → A
unassigned_apart e ripas granule unassigned same = both_ways (ap is_assigned same) unassigned

-- an entry is replaced by one without a page
replace_sound : (s : State) (rd level number : ℕ) (entry : Entry) → IsSound s → CanReplace s rd level number entry → is_assigned entry ≡ false
    → IsSound (with_leaf s rd level number entry)
replace_sound s rd level number entry sound can unassigned =
    with_leaf_sound s rd level number entry sound record {
      there = ap is_some (leaf_there s sound rd level number can.table can.leaf);
      kind = λ r at. subst (λ x. IsLeafOf entry x level number) (realm_at-is s rd r at) can.kind;
      page = λ granule ripas same. unassigned_apart entry ripas granule unassigned same;
      alone = λ granule ripas same. unassigned_apart entry ripas granule unassigned same;
    }

-- an entry is given a page
give_page_sound : (s : State) (rd level number : ℕ) (entry : Entry) (page : ℕ) (ripas : Ripas) → IsSound s → CanReplace s rd level number entry
    → IsTrue (has_tag s page Delegated) → entry ≡ Assigned ripas page → IsSound (with_leaf (with_tag s page Data) rd level number entry)
unfolding has_tag
give_page_sound s rd level number entry page ripas sound can tag is =
    let unnamed : IsUnnamed s page = unnamed_by_tag s page Delegated sound tag refl refl refl in
    let page_is : (granule : ℕ) (other : Ripas) → entry ≡ Assigned other granule → page ≡ granule =
    λ granule other same. (let both : Assigned ripas page ≡ Assigned other granule = sym is ∙ same in cc) in
    with_leaf_sound (with_tag s page Data) rd level number entry (lent_retagged s page Data sound tag (record { no_rd = refl; no_rec = refl }))
    record {
      there = ap is_some (leaf_there s sound rd level number can.table can.leaf);
      kind = λ r at. subst (λ x. IsLeafOf entry x level number) (realm_at-is s rd r at) can.kind;
      page = λ granule other same. rw (← (page_is granule other same)) (has_tag-here s page Data (granule_from_tag s page Delegated tag));
      alone = λ granule other same a l n old at miss.
          both_ways (eq-eqb granule page (sym (page_is granule other same))) (unnamed.page a l n granule old at);
    }

-- an entry's page is taken from it
take_page_sound : (s : State) (rd level number : ℕ) (entry : Entry) (page : ℕ) (ripas : Ripas) → IsSound s → CanReplace s rd level number entry
    → is_assigned entry ≡ false → entry_at s rd level number ≡ Assigned ripas page
    → IsSound (with_leaf (with_tag s page Delegated) rd level number entry)
unfolding has_tag
take_page_sound s rd level number entry page ripas sound can unassigned was =
    let t : State = with_leaf s rd level number entry in
    let leaf : s.leaf rd level number ≡ Some (Assigned ripas page) = leaf_there s sound rd level number can.table can.leaf ∙ ap Some was in
    let tag : IsTrue (has_tag s page Data) = sound.leaves.pages rd level number page ripas leaf in
    let taken : IsSound t = replace_sound s rd level number entry sound can unassigned in
    retagged_sound t page Delegated taken (granule_from_tag s page Data tag)
    (rw (tag-has_tag s page Data tag) (record { no_rd = refl; no_rec = refl }))
    (record { no_rd = refl; no_rec = refl })
    record {
      aux0 = λ g c at. tags_apart t c.aux0 page RecAux Data (taken.recs.aux0 g c at) tag refl;
      aux1 = λ g c at. tags_apart t c.aux1 page RecAux Data (taken.recs.aux1 g c at) tag refl;
      table = λ other l n held at. tags_apart t held page Rtt Data (taken.tables.tagged other l n held at) tag refl;
      page = λ other l n held old. by_spot (λ found. found ≡ Some (Assigned old held) → (held == page) ≡ false)
          rd level number other l n (Some entry) (s.leaf other l n)
          (λ _ _ _ same. let is : entry ≡ Assigned old held = cc in unassigned_apart entry old held unassigned is)
          (λ miss at. false_from_ne_true _ (λ same.
          let place =
          sound.leaves.apart other l n rd level number page old ripas (at ∙ ap (λ g. Some (Assigned old g)) (eqb-true held page same)) leaf in
          both_ways (rw (place.0, place.1, place.2) (spot_itself rd level number)) miss));
    }

-- entries are changed, with the tag of a page
entries_sound : (s : State) (rd level : ℕ) (entries : EntryChange) (page : Option TagChange) → IsSound s → CanChangeEntries s rd level entries page
    → IsSound (with_entry_change (with_tag_change s page) rd level entries)
entries_sound s rd level (Replaced number entry) None sound can = replace_sound s rd level number entry sound can.0 can.1.0
entries_sound s rd level (Replaced number entry) (Some page) sound can = elim can.1 [
  | inl given ↦ rw given.1 (give_page_sound s rd level number entry page.granule given.3.0 sound can.0 given.0 given.3.1)
  | inr taken ↦ rw taken.0 (take_page_sound s rd level number entry page.granule taken.2.0 sound can.0 taken.1 taken.2.1)
]
entries_sound s rd level (RipasSet first last ripas) None sound can = with_ripas_sound s rd level first last ripas sound
entries_sound s rd level (RipasSet first last ripas) (Some page) sound can = absurd (let bad : Some page ≡ None = can.1 in cc)

-- ---- entries after records

-- an update leaves a realm its width
width_kept : (s : State) (change : RealmChange) (rd : ℕ) → (realm_at (with_realm_change s (Some change)) rd).width ≡ (realm_at s rd).width
unfolding realm_at
width_kept s change rd =
    by_address (λ found. (unwrap_or found no_realm).width ≡ (realm_at s rd).width) rd change.rd
    (Some (realm_updated change.update (realm_at s change.rd))) (s.realm rd)
    (λ here. rw here ((updated_like change.update (realm_at s change.rd)).width)) (λ _. refl)

-- what the entries of a table must be is not a matter of the realm's other fields
after_realm : (s : State) (realm : Option RealmChange) (rd level : ℕ) (entries : EntryChange) (page : Option TagChange)
    → CanChangeEntries s rd level entries page → CanChangeEntries (with_realm_change s realm) rd level entries page
unfolding has_tag entry_at
after_realm s None rd level entries page can = can
after_realm s (Some change) rd level (RipasSet first last ripas) page can = (
  record {
    some = can.0.some;
    table = can.0.table;
    one_table = can.0.one_table;
    protected = rw (width_kept s change rd) can.0.protected;
    leaves = can.0.leaves;
  },
  can.1,
)
after_realm s (Some change) rd level (Replaced number entry) None can = (
  record {
    table = can.0.table;
    leaf = can.0.leaf;
    kind = leaf_of_width entry (realm_at s rd) _ level number (width_kept s change rd) can.0.kind;
  },
  can.1,
)
after_realm s (Some change) rd level (Replaced number entry) (Some tag) can = (
  record {
    table = can.0.table;
    leaf = can.0.leaf;
    kind = leaf_of_width entry (realm_at s rd) _ level number (width_kept s change rd) can.0.kind;
  },
  can.1,
)

-- nor of RECs
after_rec : (s : State) (rec : Option RecChange) (rd level : ℕ) (entries : EntryChange) (page : Option TagChange)
    → CanChangeEntries s rd level entries page → CanChangeEntries (with_rec_change s rec) rd level entries page
unfolding has_tag entry_at realm_at
after_rec s None rd level entries page can = can
after_rec s (Some change) rd level (RipasSet first last ripas) page can = (
  record {
    some = can.0.some;
    table = can.0.table;
    one_table = can.0.one_table;
    protected = can.0.protected;
    leaves = can.0.leaves;
  },
  can.1,
)
after_rec s (Some change) rd level (Replaced number entry) None can =
    (record { table = can.0.table; leaf = can.0.leaf; kind = can.0.kind }, can.1)
after_rec s (Some change) rd level (Replaced number entry) (Some tag) can =
    (record { table = can.0.table; leaf = can.0.leaf; kind = can.0.kind }, can.1)

-- a tag and a realm's record may be changed in either order
tag_after_realm : (s : State) (realm : Option RealmChange) (page : Option TagChange)
    → with_tag_change (with_realm_change s realm) page ≡ with_realm_change (with_tag_change s page) realm
unfolding realm_at
tag_after_realm s realm None = refl
tag_after_realm s None (Some tag) = refl
tag_after_realm s (Some change) (Some tag) = refl

-- and a tag and a REC's
tag_after_rec : (s : State) (rec : Option RecChange) (page : Option TagChange)
    → with_tag_change (with_rec_change s rec) page ≡ with_rec_change (with_tag_change s page) rec
unfolding rec_at
tag_after_rec s rec None = refl
tag_after_rec s None (Some tag) = refl
tag_after_rec s (Some change) (Some tag) = refl

-- entries are changed, with records and the tag of a page
pub entries_and_records_sound : (s : State) (rd level : ℕ) (entries : EntryChange)
    (page : Option TagChange) (realm : Option RealmChange) (rec : Option RecChange)
    → IsSound s → CanChangeEntries s rd level entries page → CanChangeRealm s realm → CanChangeRec s rec
    → IsSound (with_entry_change (with_rec_change (with_realm_change (with_tag_change s page) realm) rec) rd level entries)
entries_and_records_sound s rd level entries page realm rec sound can can_realm can_rec =
    let later : State = with_rec_change (with_realm_change s realm) rec in
    let still : CanChangeEntries later rd level entries page =
    after_rec (with_realm_change s realm) rec rd level entries page (after_realm s realm rd level entries page can) in
    let done : IsSound (with_entry_change (with_tag_change later page) rd level entries) =
    entries_sound later rd level entries page (records_sound s realm rec sound can_realm can_rec) still in
    let order : with_tag_change later page ≡ with_rec_change (with_realm_change (with_tag_change s page) realm) rec =
    tag_after_rec (with_realm_change s realm) rec page ∙ ap (λ (x : State). with_rec_change x rec) (tag_after_realm s realm page) in
    subst (λ (x : State). IsSound (with_entry_change x rd level entries)) order done
