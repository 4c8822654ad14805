-- What a walk reads of an entry is its leaf or its link.
use Rattle.rmm_laws.proofs.SoundCommon.{◌*◌, ◌+◌, ◌/◌, ◌<◌, ◌∙◌, ◌≡◌, Assigned, Bool, Entry, IsLeafOf, IsSound, IsTrue, None, Option, RealmRecord, Some, State, ap, arith, both_ways, entry_at, false, if◌then◌else◌, inl, inr, is_some, is_table, nat_lt, refl, subst, suc, sym, true, ℕ}
use Rattle.std.proofs.Common.{◌%◌, add-one}
use Rattle.std.proofs.lemmas.Bool.{or_cases, lt-ltb}
use Rattle.rmm_spec.specs.declared.entry.Entry.TheVariants.{Table, AssignedNs}
use Rattle.rmm_spec.specs.Walk.{linked_entry, is_live, is_in_use, has_entry}
use Rattle.rmm_spec.specs.Applicable.{IsVacant}
use Rattle.rmm_laws.proofs.Searches.{any_below-false}
use Rattle.lemmas.proofs.Options.{value_there}

-- ---- what stands above a leaf or a link

-- a leaf is of a realm that stands, and fits it
pub leaf_fits : (s : State) → IsSound s → (rd level number : ℕ) (e : Entry) → s.leaf rd level number ≡ Some e
    → (r : RealmRecord) × (s.realm rd ≡ Some r) × IsLeafOf e r level number
leaf_fits s sound rd level number e at =
    let table = value_there (s.table rd level (number / 512)) (sound.leaves.placed rd level number e at) in
    let owner = sound.tables.owned rd level (number / 512) table.0 table.1 in
    (owner.0, owner.1, sound.leaves.kinds rd level number e owner.0 at owner.1)

-- a leaf is no link
pub fitting_leaf : (e : Entry) (r : RealmRecord) (level number : ℕ) → IsLeafOf e r level number → is_table e ≡ false
fitting_leaf (Table granule) r level number fits = absurd fits
fitting_leaf _ r level number fits = refl

-- a leaf above the last level keeps no page
pub vacant_above : (e : Entry) (r : RealmRecord) (level number : ℕ) → level < 3 → IsLeafOf e r level number → IsVacant e
vacant_above (Assigned ripas granule) r level number above fits = absurd (omega (arith, fits.1))
vacant_above (Table granule) r level number above fits = fits
vacant_above (AssignedNs page) r level number above fits = absurd (omega (arith, fits.1))
vacant_above _ r level number above fits = tt

-- ---- entries

-- an entry with no table below it is its leaf
unlinked_leaf : (above : Bool) (below : Option ℕ) (leaf : Option Entry) (e : Entry) → below ≡ None → leaf ≡ Some e → is_table e ≡ false
    → linked_entry (if above then below else None) leaf ≡ e
unlinked_leaf true below leaf e none at no_table = rw (none, at, no_table) refl
unlinked_leaf false below leaf e none at no_table = rw (at, no_table) refl

-- an entry that is a leaf
pub entry-leaf : (s : State) → IsSound s → (rd level number : ℕ) (e : Entry) → s.leaf rd level number ≡ Some e → entry_at s rd level number ≡ e
unfolding entry_at
entry-leaf s sound rd level number e at =
    let fits = leaf_fits s sound rd level number e at in
    let none : s.table rd (level + 1) number ≡ None =
    subst (λ l. s.table rd l number ≡ None) (sym (add-one level)) (sound.leaves.unlinked rd level number e at) in
    unlinked_leaf (nat_lt level 3) (s.table rd (level + 1) number) (s.leaf rd level number) e none at (fitting_leaf e fits.0 level number fits.2)

-- an entry that is a link
pub entry-link : (s : State) → IsSound s → (rd level number granule : ℕ)
    → s.table rd (suc level) number ≡ Some granule → entry_at s rd level number ≡ Table granule
unfolding entry_at
entry-link s sound rd level number granule at =
    let owner = sound.tables.owned rd (suc level) number granule at in
    let above : level < 3 = omega (arith, owner.2.last) in
    let is : s.table rd (level + 1) number ≡ Some granule = subst (λ l. s.table rd l number ≡ Some granule) (sym (add-one level)) at in
    rw (lt-ltb level 3 above, is) refl

-- an entry of a table that is no link is the leaf that stands there
pub leaf_there : (s : State) → IsSound s → (rd level number : ℕ) → IsTrue (is_some (s.table rd level (number / 512)))
    → is_table (entry_at s rd level number) ≡ false → s.leaf rd level number ≡ Some (entry_at s rd level number)
leaf_there s sound rd level number table no_link =
    elim (or_cases (is_some (s.leaf rd level number)) (is_some (s.table rd (suc level) number)) (sound.leaves.complete rd level number table)) [
      | inl leaf ↦ (let e = value_there (s.leaf rd level number) leaf in e.1 ∙ ap Some (sym (entry-leaf s sound rd level number e.0 e.1)))
      | inr link ↦ (let t = value_there (s.table rd (suc level) number) link in
          both_ways (ap is_table (entry-link s sound rd level number t.0 t.1)) no_link)
    ]

-- an entry of a table that is a link leads to a table that stands
pub link_there : (s : State) → IsSound s → (rd level number : ℕ) → IsTrue (is_some (s.table rd level (number / 512)))
    → IsTrue (is_table (entry_at s rd level number))
    → (granule : ℕ) × (s.table rd (suc level) number ≡ Some granule) × (entry_at s rd level number ≡ Table granule)
link_there s sound rd level number table link =
    elim (or_cases (is_some (s.leaf rd level number)) (is_some (s.table rd (suc level) number)) (sound.leaves.complete rd level number table)) [
      | inl leaf ↦ (let e = value_there (s.leaf rd level number) leaf in
          let fits = leaf_fits s sound rd level number e.0 e.1 in
          both_ways link (ap is_table (entry-leaf s sound rd level number e.0 e.1) ∙ fitting_leaf e.0 fits.0 level number fits.2))
      | inr below ↦ (let t = value_there (s.table rd (suc level) number) below in (t.0, t.1, entry-link s sound rd level number t.0 t.1))
    ]

-- an entry that keeps its table not in use is no link
not_in_use : (s : State) → IsSound s → (rd level number : ℕ) (found : Option ℕ) → s.table rd (suc level) number ≡ found
    → is_live (entry_at s rd level number) ≡ false → found ≡ None
not_in_use s sound rd level number None at unused = refl
not_in_use s sound rd level number (Some granule) at unused = both_ways (ap is_live (entry-link s sound rd level number granule at)) unused

-- below a table that is not in use are none
pub childless_unused : (s : State) → IsSound s → (rd level number : ℕ) → is_in_use s rd level number ≡ false
    → (n : ℕ) → n / 512 ≡ number → s.table rd (suc level) n ≡ None
unfolding has_entry
childless_unused s sound rd level number unused n in_table =
    let each : is_live (entry_at s rd level (512 * number + n % 512)) ≡ false =
    any_below-false 512 (λ k. is_live (entry_at s rd level (512 * number + k))) unused (n % 512) (omega arith) in
    let here : 512 * number + n % 512 ≡ n = omega arith in
    not_in_use s sound rd level n (s.table rd (suc level) n) refl (subst (λ k. is_live (entry_at s rd level k) ≡ false) here each)
