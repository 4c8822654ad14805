-- Leaves are replaced by leaves, and tables stay.
use Rattle.rmm_laws.proofs.SoundCommon.{◌&&◌, ◌==◌, ◌∙◌, ◌≡◌, Assigned, Bool, Data, Entry, IsLeafOf, IsSound, IsTrue, None, Option, RealmRecord, Ripas, Some, State, Unassigned, UnassignedNs, ap, both_ways, false, has_tag, if◌then◌else◌, is_some, nat_lt, refl, sym, true, ℕ}
use Rattle.std.proofs.Common.{nat_le, option_map}
use Rattle.rmm_spec.specs.declared.entry.Entry.TheVariants.{Table, AssignedNs}
use Rattle.rmm_spec.specs.Update.{with_leaf, with_ripas, entry_with_ripas, is_same_entry}
use Rattle.rmm_laws.proofs.Cases.{by_spot, nothing_there}
use Rattle.rmm_laws.proofs.Kept.{same_realms, realms_kept, recs_kept, tables_kept}

-- What new leaves must be: each stands where one stood, fits its place, and names a page that is named by it alone.
pub record CanTakePlaces (s t : State) : Type 0 where
  pub there : (rd level number : ℕ) → is_some (t.leaf rd level number) ≡ is_some (s.leaf rd level number)
  pub kinds : (rd level number : ℕ) (e : Entry) (r : RealmRecord) → t.leaf rd level number ≡ Some e → s.realm rd ≡ Some r → IsLeafOf e r level number
  pub pages : (rd level number granule : ℕ) (ripas : Ripas) → t.leaf rd level number ≡ Some (Assigned ripas granule) → IsTrue (has_tag s granule Data)
  pub apart : (rd level number other other_level other_number granule : ℕ) (ripas other_ripas : Ripas)
      → t.leaf rd level number ≡ Some (Assigned ripas granule) → t.leaf other other_level other_number ≡ Some (Assigned other_ripas granule)
      → (rd ≡ other) × (level ≡ other_level) × (number ≡ other_number)

-- what stands there is something
some_there : (found : Option Entry) → IsTrue (is_some found) → (e : Entry) × (found ≡ Some e)
some_there None there = both_ways there refl
some_there (Some e) there = (e, refl)

-- leaves take the places of others
leaves_sound : (s : State) (leaf : ℕ → ℕ → ℕ → Option Entry)
    → IsSound s → CanTakePlaces s (record s { leaf = leaf }) → IsSound (record s { leaf = leaf })
unfolding has_tag
leaves_sound s leaf sound can =
    let t : State = record s { leaf = leaf } in
    let was : (rd level number : ℕ) (e : Entry) → t.leaf rd level number ≡ Some e → (old : Entry) × (s.leaf rd level number ≡ Some old) =
    λ rd level number e at. some_there (s.leaf rd level number) (sym (can.there rd level number) ∙ ap is_some at) in
    record {
      outside = sound.outside;
      realms = realms_kept s t refl (λ _. refl) sound.realms;
      recs = recs_kept s t refl (λ _. refl) (λ _ _ _ has. has) (λ _ has. has) (λ _ _ r _ at. (r, at, refl)) sound.recs;
      tables = tables_kept s t refl (same_realms s t refl) (λ _ _ _ _ _ has. has) sound.tables;
      leaves = record {
        placed = λ rd level number e at. let old = was rd level number e at in sound.leaves.placed rd level number old.0 old.1;
        unlinked = λ rd level number e at. let old = was rd level number e at in sound.leaves.unlinked rd level number old.0 old.1;
        complete = λ rd level number there. rw (can.there rd level number) (sound.leaves.complete rd level number there);
        kinds = can.kinds;
        pages = can.pages;
        apart = can.apart;
      };
    }

-- ---- one leaf

-- What a leaf that is put in must be: there is one, it fits, and its page is a DATA granule that no leaf names.
pub record CanPutLeaf (s : State) (rd level number : ℕ) (entry : Entry) : Type 0 where
  pub there : IsTrue (is_some (s.leaf rd level number))
  pub kind : (r : RealmRecord) → s.realm rd ≡ Some r → IsLeafOf entry r level number
  pub page : (granule : ℕ) (ripas : Ripas) → entry ≡ Assigned ripas granule → IsTrue (has_tag s granule Data)
  pub alone : (granule : ℕ) (ripas : Ripas) → entry ≡ Assigned ripas granule
      → (other l n : ℕ) (old : Ripas) → s.leaf other l n ≡ Some (Assigned old granule) → is_same_entry rd level number other l n ≡ false → ⊥

-- one leaf is replaced
pub with_leaf_sound : (s : State) (rd level number : ℕ) (entry : Entry)
    → IsSound s → CanPutLeaf s rd level number entry → IsSound (with_leaf s rd level number entry)
with_leaf_sound s rd level number entry sound can =
    let t : State = with_leaf s rd level number entry in
    leaves_sound s t.leaf sound record {
      there = λ other l n. by_spot (λ found. is_some found ≡ is_some (s.leaf other l n)) rd level number other l n (Some entry) (s.leaf other l n)
          (λ here at first. rw (here, at, first) (sym can.there)) (λ _. refl);
      kinds = λ other l n e r. by_spot (λ found. found ≡ Some e → s.realm other ≡ Some r → IsLeafOf e r l n)
          rd level number other l n (Some entry) (s.leaf other l n)
          (λ here at first same realm. let is : entry ≡ e = cc in rw (← is) (rw (at, first) (can.kind r (rw here at realm))))
          (λ _. sound.leaves.kinds other l n e r);
      pages = λ other l n granule ripas. by_spot (λ found. found ≡ Some (Assigned ripas granule) → IsTrue (has_tag s granule Data))
          rd level number other l n (Some entry) (s.leaf other l n)
          (λ _ _ _ same. let is : entry ≡ Assigned ripas granule = cc in can.page granule ripas is)
          (λ _. sound.leaves.pages other l n granule ripas);
      apart = λ a l n b m k granule ripas ripas_too.
          by_spot (λ found. found ≡ Some (Assigned ripas granule) → t.leaf b m k ≡ Some (Assigned ripas_too granule) → (a ≡ b) × (l ≡ m) × (n ≡ k))
          rd level number a l n (Some entry) (s.leaf a l n)
          (λ here at first same. by_spot (λ found. found ≡ Some (Assigned ripas_too granule) → (a ≡ b) × (l ≡ m) × (n ≡ k))
          rd level number b m k (Some entry) (s.leaf b m k)
          (λ too at_too first_too _. (here ∙ sym too, at ∙ sym at_too, first ∙ sym first_too))
          (λ apart other. let is : entry ≡ Assigned ripas granule = cc in absurd (can.alone granule ripas is b m k ripas_too other apart)))
          (λ apart other. by_spot (λ found. found ≡ Some (Assigned ripas_too granule) → (a ≡ b) × (l ≡ m) × (n ≡ k))
          rd level number b m k (Some entry) (s.leaf b m k)
          (λ _ _ _ same. let is : entry ≡ Assigned ripas_too granule = cc in absurd (can.alone granule ripas_too is a l n ripas other apart))
          (λ _ too. sound.leaves.apart a l n b m k granule ripas ripas_too other too));
    }

-- ---- the RIPAS of leaves

-- another RIPAS leaves an entry its kind
ripas_fits : (e : Entry) (ripas : Ripas) (r : RealmRecord) (level number : ℕ)
    → IsLeafOf e r level number → IsLeafOf (entry_with_ripas ripas e) r level number
ripas_fits (Unassigned old) ripas r level number fits = fits
ripas_fits _ ripas r level number fits = fits

-- and its page
ripas_page : (e : Entry) (ripas new : Ripas) (granule : ℕ)
    → entry_with_ripas ripas e ≡ Assigned new granule → (old : Ripas) × (e ≡ Assigned old granule)
ripas_page (Unassigned old) ripas new granule same = absurd (let bad : Unassigned ripas ≡ Assigned new granule = same in cc)
ripas_page (Assigned old page) ripas new granule same =
    let is : page ≡ granule = (let e : Assigned ripas page ≡ Assigned new granule = same in cc) in (old, ap (Assigned old) is)
ripas_page (Table page) ripas new granule same = absurd (let bad : Table page ≡ Assigned new granule = same in cc)
ripas_page UnassignedNs ripas new granule same = absurd (let bad : UnassignedNs ≡ Assigned new granule = same in cc)
ripas_page (AssignedNs page) ripas new granule same = absurd (let bad : AssignedNs page ≡ Assigned new granule = same in cc)

-- a leaf with another RIPAS, or as it was
ripas_there : (within : Bool) (ripas : Ripas) (found : Option Entry)
    → is_some (if within then option_map (entry_with_ripas ripas) found else found) ≡ is_some found
ripas_there true ripas None = refl
ripas_there true ripas (Some e) = refl
ripas_there false ripas found = refl

-- what it fits, it fitted before
ripas_kinds : (within : Bool) (ripas : Ripas) (found : Option Entry) (e : Entry) (r : RealmRecord) (level number : ℕ)
    → ((old : Entry) → found ≡ Some old → IsLeafOf old r level number)
    → (if within then option_map (entry_with_ripas ripas) found else found) ≡ Some e → IsLeafOf e r level number
ripas_kinds true ripas None e r level number fits same = nothing_there refl same
ripas_kinds true ripas (Some old) e r level number fits same =
    let is : entry_with_ripas ripas old ≡ e = (let f : Some (entry_with_ripas ripas old) ≡ Some e = same in cc) in
    rw (← is) (ripas_fits old ripas r level number (fits old refl))
ripas_kinds false ripas found e r level number fits same = fits e same

-- what it names, it named before
ripas_pages : (within : Bool) (ripas : Ripas) (found : Option Entry) (new : Ripas) (granule : ℕ)
    → (if within then option_map (entry_with_ripas ripas) found else found) ≡ Some (Assigned new granule)
    → (old : Ripas) × (found ≡ Some (Assigned old granule))
ripas_pages true ripas None new granule same = nothing_there refl same
ripas_pages true ripas (Some e) new granule same =
    let is : entry_with_ripas ripas e ≡ Assigned new granule = (let f : Some (entry_with_ripas ripas e) ≡ Some (Assigned new granule) = same in cc) in
    let page = ripas_page e ripas new granule is in (page.0, ap Some page.1)
ripas_pages false ripas found new granule same = (new, same)

-- leaves get another RIPAS, whichever they are
pub with_ripas_sound : (s : State) (rd level first last : ℕ) (ripas : Ripas) → IsSound s → IsSound (with_ripas s rd level first last ripas)
with_ripas_sound s rd level first last ripas sound =
    let t : State = with_ripas s rd level first last ripas in
    let within : ℕ → ℕ → ℕ → Bool = λ other l n. other == rd && l == level && nat_le first n && nat_lt n last in
    let was : (other l n granule : ℕ) (new : Ripas) → t.leaf other l n ≡ Some (Assigned new granule)
    → (old : Ripas) × (s.leaf other l n ≡ Some (Assigned old granule)) =
    λ other l n granule new. ripas_pages (within other l n) ripas (s.leaf other l n) new granule in
    leaves_sound s t.leaf sound record {
      there = λ other l n. ripas_there (within other l n) ripas (s.leaf other l n);
      kinds = λ other l n e r same realm. ripas_kinds (within other l n) ripas
          (s.leaf other l n) e r l n (λ old at. sound.leaves.kinds other l n old r at realm) same;
      pages = λ other l n granule new at. let old = was other l n granule new at in sound.leaves.pages other l n granule old.0 old.1;
      apart = λ a l n b m k granule ripas_at ripas_too at too.
          let old = was a l n granule ripas_at at in let old_too = was b m k granule ripas_too too in
          sound.leaves.apart a l n b m k granule old.0 old_too.0 old.1 old_too.1;
    }
