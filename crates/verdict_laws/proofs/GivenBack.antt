-- What a call gives back without naming it is a part of a realm or a REC.
use Rattle.verdict_laws.proofs.Common.{◌≡◌, ℕ, ◌+◌, ◌==◌, Bool, true, false, if◌then◌else◌, IsTrue, Option, Some, None, inl, inr, refl, ◌∙◌, ap, subst, ne_eqb, Entry, Tag, Rd, Rec, RecAux, Rtt, State, IsSound, has_tag, realm_at, rec_at, entry_at, both_ways, realm_there, rec_there, tag-has_tag, is_part}
use Rattle.std.specs.Prelude.{nat_lt}
use Rattle.rmm_spec.specs.declared.entry.Entry.TheVariants.{Table}
use Rattle.rmm_spec.specs.declared.tag.Tag.TheVariants.{Data}
use Rattle.rmm_spec.specs.Ownership.{IsTied}
use Rattle.rmm_spec.specs.Walk.{entry_address, is_assigned, is_table, linked_entry}
use Rattle.rmm_laws.proofs.Facts.{entry-page}
use Rattle.rmm_laws.proofs.Ties.{tied-tag}
use Rattle.rmm_laws.proofs.Walked.{assigned_kind}

-- what an entry links to, by whether its level is above the last
linked_table : (above : Bool) (below : Option ℕ) (leaf : Option Entry) → IsTrue (is_table (linked_entry (if above then below else None) leaf))
    → below ≡ Some (entry_address (linked_entry (if above then below else None) leaf))
linked_table true (Some granule) leaf linked = refl
linked_table true None (Some (Table granule)) linked = both_ways linked refl
linked_table true None _ linked = both_ways linked refl
linked_table false below (Some (Table granule)) linked = both_ways linked refl
linked_table false below _ linked = both_ways linked refl

module _ (s : State) (granule : ℕ) (sound : IsSound s) (whole : is_part (s.tag granule) ≡ false) where
  -- what is tied to a realm as a part is another granule
  tied_apart : (role : Tag) (tied realm : ℕ) → is_part role ≡ true → IsTied role s tied realm → (tied == granule) ≡ false
  tied_apart role tied realm part is =
      ne_eqb tied granule (λ same. both_ways
      (ap is_part (tag-has_tag s granule role (tied-tag s role granule realm sound (subst (λ (g : ℕ). IsTied role s g realm) same is))) ∙ part) whole)

  -- a realm's root
  pub root_apart : (rd : ℕ) → IsTrue (has_tag s rd Rd) → ((realm_at s rd).root == granule) ≡ false
  root_apart rd tag =
      let realm = realm_at s rd in
      tied_apart Rtt realm.root rd refl (realm.start_level, 0, sound.tables.roots rd realm (realm_there s rd sound tag))

  -- a REC's auxiliary granules
  pub aux_apart : (rec : ℕ) → IsTrue (has_tag s rec Rec) → (((rec_at s rec).aux0 == granule) ≡ false) × (((rec_at s rec).aux1 == granule) ≡ false)
  aux_apart rec tag =
      let found = rec_at s rec in
      let is = rec_there s rec sound tag in (
        tied_apart RecAux found.aux0 found.owner refl (rec, found, is, refl, inl refl),
        tied_apart RecAux found.aux1 found.owner refl (rec, found, is, refl, inr refl),
      )

  -- an entry's page
  pub page_apart : (rd level number : ℕ) → IsTrue (is_assigned (entry_at s rd level number))
      → (entry_address (entry_at s rd level number) == granule) ≡ false
  page_apart rd level number assigned =
      let entry = entry_at s rd level number in
      let page = (assigned_kind entry assigned).1 in
      tied_apart Data (entry_address entry) rd refl (level, number, page.0, entry-page s rd level number (entry_address entry) page.0 page.1)

  -- the table that an entry links to
  pub table_apart : (rd level number : ℕ) → IsTrue (is_table (entry_at s rd level number))
      → (entry_address (entry_at s rd level number) == granule) ≡ false
  unfolding entry_at
  table_apart rd level number linked =
      tied_apart Rtt (entry_address (entry_at s rd level number)) rd refl
      (level + 1, number, linked_table (nat_lt level 3) (s.table rd (level + 1) number) (s.leaf rd level number) linked)
