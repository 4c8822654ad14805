-- Where a walk for an address of a realm ends: at a table that stands, at a level from the root's on.
use Rattle.rmm_laws.proofs.SoundCommon.{◌*◌, ◌+◌, ◌/◌, ◌<◌, ◌∙◌, ◌≡◌, ◌≤◌, Assigned, Entry, IsSound, IsTrue, Rd, RealmRecord, Ripas, Some, State, Unassigned, UnassignedNs, ap, arith, both_ways, eqb-true, false, has_tag, inl, inr, is_some, is_table, realm_at, refl, subst, sym, true, ℕ}
use Rattle.std.proofs.Common.{◌%◌, ◌^◌}
use Rattle.std.proofs.Math.Nat.{div-add-mod, div-div-eq-div-mul}
use Rattle.rmm_spec.specs.declared.entry.Entry.TheVariants.{AssignedNs}
use Rattle.rmm_spec.specs.Walk.{entry_size, table_size, entry_number, table_number, full, half, is_multiple, is_assigned, is_unassigned, is_unassigned_ns, is_assigned_ns, entry_address, reach}
use Rattle.rmm_spec.specs.Step.Terms.{is_space}
use Rattle.spec_lemmas.proofs.WalkLaws.{reach-le, reach-covers, table_size-entries}
use Rattle.rmm_laws.proofs.Searches.{realm_there}
use Rattle.rmm_laws.proofs.Spaces.{space_cases}

-- ---- addresses and numbers

-- an entry begins at its address or before
pub entry_starts : (level ipa : ℕ) → entry_number level ipa * entry_size level ≤ ipa
unfolding entry_number
entry_starts level ipa =
    let whole : entry_size level * (ipa / entry_size level) + ipa % entry_size level ≡ ipa = div-add-mod ipa (entry_size level) in omega arith

-- and at its address, if that is a multiple of its size
pub entry_begins : (level ipa : ℕ) → IsTrue (is_multiple ipa (entry_size level)) → entry_number level ipa * entry_size level ≡ ipa
unfolding entry_number
entry_begins level ipa multiple =
    let whole : entry_size level * (ipa / entry_size level) + ipa % entry_size level ≡ ipa = div-add-mod ipa (entry_size level) in
    let none : ipa % entry_size level ≡ 0 = eqb-true (ipa % entry_size level) 0 multiple in omega arith

-- a table begins at its address or before
pub table_starts : (level ipa : ℕ) → table_number level ipa * table_size level ≤ ipa
unfolding table_number
table_starts level ipa =
    let whole : table_size level * (ipa / table_size level) + ipa % table_size level ≡ ipa = div-add-mod ipa (table_size level) in omega arith

-- an entry's table, by their numbers
pub table_number-entry : (level ipa : ℕ) → level ≤ 3 → table_number level ipa ≡ entry_number level ipa / 512
unfolding table_number entry_number
table_number-entry level ipa last =
    let size : table_size level ≡ entry_size level * 512 = omega (arith, table_size-entries level last) in
    ap (λ unit. ipa / unit) size ∙ sym (div-div-eq-div-mul ipa (entry_size level) 512)

-- the protected half is a part of the whole
pub half_below : (r : RealmRecord) → IsTrue (is_space r.width r.start_level) → half r ≤ full r
half_below r space = elim (space_cases r.width r.start_level space) [
  | inl small ↦ rw small.0 (omega arith)
  | inr large ↦ rw large.0 (omega arith)
]

-- a root covers every address of its realm
pub root_number : (r : RealmRecord) → IsTrue (is_space r.width r.start_level) → (ipa : ℕ) → ipa < full r → table_number r.start_level ipa ≡ 0
unfolding table_number table_size
root_number r space ipa below = elim (space_cases r.width r.start_level space) [
  | inl small ↦ (let within : ipa < 2 ^ 39 = rw small.0 at below in rw small.1 (omega arith))
  | inr large ↦ (let within : ipa < 2 ^ 48 = rw large.0 at below in rw large.1 (omega arith))
]

-- ---- walks

-- A table of the realm covers the address at this level, which is the root's or below.
pub record IsWalked (s : State) (rd ipa level : ℕ) : Type 0 where
  pub table : IsTrue (is_some (s.table rd level (entry_number level ipa / 512)))
  pub start : (realm_at s rd).start_level ≤ level
  pub last : level ≤ 3

-- a realm's space begins by the last level
pub start_above : (r : RealmRecord) → IsTrue (is_space r.width r.start_level) → r.start_level ≤ 1
start_above r space = elim (space_cases r.width r.start_level space) [
  | inl small ↦ omega (arith, small.1)
  | inr large ↦ omega (arith, large.1)
]

-- a realm that stands has a space
pub space_there : (s : State) (rd : ℕ) → IsSound s → IsTrue (has_tag s rd Rd) → IsTrue (is_space (realm_at s rd).width (realm_at s rd).start_level)
space_there s rd sound tag = sound.realms.spaces rd (realm_at s rd) (realm_there s rd sound tag)

-- a walk from the root on ends at a table
pub walked : (s : State) (rd ipa max : ℕ) → IsSound s → IsTrue (has_tag s rd Rd) → ipa < full (realm_at s rd)
    → (realm_at s rd).start_level ≤ max → max ≤ 3 → IsWalked s rd ipa (reach s rd ipa max)
walked s rd ipa max sound tag below above last =
    let r : RealmRecord = realm_at s rd in
    let root : s.table rd r.start_level 0 ≡ Some r.root = sound.tables.roots rd r (realm_there s rd sound tag) in
    let number : table_number r.start_level ipa ≡ 0 = root_number r (space_there s rd sound tag) ipa below in
    let covers : is_some (s.table rd r.start_level (table_number r.start_level ipa)) ≡ true =
    ap (λ n. is_some (s.table rd r.start_level n)) number ∙ ap is_some root in
    let reached = reach-covers s rd ipa r.start_level max covers above in
    let ends : reach s rd ipa max ≤ 3 = omega (arith, reach-le s rd ipa max) in
    record {
      table = subst (λ n. IsTrue (is_some (s.table rd (reach s rd ipa max) n))) (table_number-entry (reach s rd ipa max) ipa ends) reached.1;
      start = reached.0;
      last = ends;
    }

-- a walk to the last level for an address of the protected half
pub walked_protected : (s : State) (rd ipa : ℕ)
    → IsSound s → IsTrue (has_tag s rd Rd) → ipa < half (realm_at s rd) → IsWalked s rd ipa (reach s rd ipa 3)
walked_protected s rd ipa sound tag below =
    let space = space_there s rd sound tag in
    walked s rd ipa 3 sound tag (omega (arith, half_below (realm_at s rd) space)) (omega (arith, start_above (realm_at s rd) space)) (omega arith)

-- ---- entries by their tests

-- unassigned memory is no page and no link
pub unassigned_kind : (e : Entry) → IsTrue (is_unassigned e) → (is_assigned e ≡ false) × (is_table e ≡ false)
unassigned_kind (Unassigned ripas) is = (refl, refl)
unassigned_kind _ is = both_ways is refl

-- a page is no link, and names its granule
pub assigned_kind : (e : Entry) → IsTrue (is_assigned e) → (is_table e ≡ false) × ((ripas : Ripas) × (e ≡ Assigned ripas (entry_address e)))
assigned_kind (Assigned ripas granule) is = (refl, (ripas, refl))
assigned_kind _ is = both_ways is refl

-- an entry of the upper half that is unassigned is no page of the realm's and no link
pub unassigned_ns_kind : (e : Entry) → IsTrue (is_unassigned_ns e) → (is_assigned e ≡ false) × (is_table e ≡ false)
unassigned_ns_kind UnassignedNs is = (refl, refl)
unassigned_ns_kind _ is = both_ways is refl

-- a page of the host is no page of the realm's and no link
pub assigned_ns_kind : (e : Entry) → IsTrue (is_assigned_ns e) → (is_assigned e ≡ false) × (is_table e ≡ false)
assigned_ns_kind (AssignedNs page) is = (refl, refl)
assigned_ns_kind _ is = both_ways is refl
