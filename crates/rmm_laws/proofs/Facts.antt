-- What a sound state says of a realm's tables and pages, as changes need it.
use Rattle.rmm_laws.proofs.Common.{◌&&◌, ◌+◌, ◌<◌, ◌==◌, ◌∙◌, ◌≡◌, ◌⊎◌, Bool, Delegated, IsSound, IsTrue, None, Option, RealmRecord, Some, State, Tag, and_parts, ap, arith, both_ways, eqb-true, false, has_tag, if◌then◌else◌, inl, inr, is_some, refl, subst, suc, sym, tag-has_tag, true, zero, ℕ}
use Rattle.std.proofs.Common.{◌-◌, ◌*◌, ◌/◌, ◌%◌, ◌^◌, ◌≤◌, ◌||◌, nat_lt}
use Rattle.std.proofs.Math.Nat.{div-add-mod}
use Rattle.std.proofs.lemmas.Bool.Decides.{nat_tests}
use Rattle.rmm_spec.specs.declared.entry.Entry.{Entry}
use Rattle.rmm_spec.specs.declared.entry.Entry.TheVariants.{Unassigned, Assigned, Table, UnassignedNs, AssignedNs}
use Rattle.rmm_spec.specs.declared.tag.Ripas.{Ripas}
use Rattle.rmm_spec.specs.declared.tag.Ripas.TheVariants.{Empty}
use Rattle.rmm_spec.specs.Walk.{table_size, full, is_table, linked_entry, entry_at, is_live, is_in_use, has_link, has_entry}
use Rattle.rmm_spec.specs.Step.Terms.{is_space}
use Rattle.rmm_laws.proofs.Searches.{any_below-false}
use Rattle.rmm_laws.proofs.Tests.{there}
use Rattle.lemmas.proofs.Options.{some_value}

-- ---- records

-- a granule that waits for use has no other tag
pub waits_not : (s : State) (g : ℕ) (tag : Tag) → (tag ≡ Delegated → ⊥) → IsTrue (has_tag s g Delegated) → IsTrue (has_tag s g tag) → ⊥
waits_not s g tag other waits has = other (sym (tag-has_tag s g tag has) ∙ tag-has_tag s g Delegated waits)

-- ---- entries

-- an entry above a table is a link
pub entry_at-table : (s : State) (rd level number granule : ℕ)
    → level < 3 → s.table rd (level + 1) number ≡ Some granule → is_table (entry_at s rd level number) ≡ true
unfolding entry_at
entry_at-table s rd level number granule above is =
    let test : nat_lt level 3 ≡ true = grind (arith, nat_tests) in rw test (rw is refl)

-- a page is at the last level
pub page-last : (s : State) (rd level number granule : ℕ) (ripas : Ripas)
    → IsSound s → s.leaf rd level number ≡ Some (Assigned ripas granule) → level ≡ 3
page-last s rd level number granule ripas sound is =
    let table = some_value (s.table rd level (number / 512)) (sound.leaves.placed rd level number (Assigned ripas granule) is) in
    let realm = sound.tables.owned rd level (number / 512) table.0 table.1 in
    (sound.leaves.kinds rd level number (Assigned ripas granule) realm.0 is realm.1).1

-- a page is its entry
pub page-entry : (s : State) (rd level number granule : ℕ) (ripas : Ripas) → IsSound s → s.leaf rd level number ≡ Some (Assigned ripas granule)
    → entry_at s rd level number ≡ Assigned ripas granule
unfolding entry_at
page-entry s rd level number granule ripas sound is =
    let last = page-last s rd level number granule ripas sound is in
    let test : nat_lt level 3 ≡ false = grind (arith, nat_tests) in
    rw test (rw is refl)

-- nothing is no page
unassigned_page : (ripas : Ripas) (granule : ℕ) → Unassigned Empty ≡ Assigned ripas granule → ⊥
unassigned_page ripas granule bad = cc

-- what is linked to no table is its leaf, where it is a page
linked_page : (below : Option ℕ) (leaf : Option Entry) (ripas : Ripas) (granule : ℕ)
    → linked_entry below leaf ≡ Assigned ripas granule → leaf ≡ Some (Assigned ripas granule)
linked_page (Some table) leaf ripas granule is = absurd (let bad : Table table ≡ Assigned ripas granule = is in cc)
linked_page None None ripas granule is = absurd (unassigned_page ripas granule is)
linked_page None (Some (Unassigned old)) ripas granule is = ap Some is
linked_page None (Some (Assigned old page)) ripas granule is = ap Some is
linked_page None (Some (Table table)) ripas granule is = absurd (unassigned_page ripas granule is)
linked_page None (Some UnassignedNs) ripas granule is = ap Some is
linked_page None (Some (AssignedNs page)) ripas granule is = ap Some is

-- an entry that is a page is a leaf
pub entry-page : (s : State) (rd level number granule : ℕ) (ripas : Ripas) → entry_at s rd level number ≡ Assigned ripas granule
    → s.leaf rd level number ≡ Some (Assigned ripas granule)
unfolding entry_at
entry-page s rd level number granule ripas is =
    linked_page (if nat_lt level 3 then s.table rd (level + 1) number else None) (s.leaf rd level number) ripas granule is

-- a table with a page is in use
pub page-in_use : (s : State) (rd level number granule : ℕ) (ripas : Ripas) → IsSound s → s.leaf rd level number ≡ Some (Assigned ripas granule)
    → is_in_use s rd level (number / 512) ≡ false → ⊥
unfolding has_entry
page-in_use s rd level number granule ripas sound is unused =
    let split : 512 * (number / 512) + number % 512 ≡ number = div-add-mod number 512 in
    let idle = any_below-false 512 (λ k. is_live (entry_at s rd level (512 * (number / 512) + k))) unused (number % 512) (omega arith) in
    let live : is_live (entry_at s rd level number) ≡ true = rw (page-entry s rd level number granule ripas sound is) refl in
    both_ways live (subst (λ n. is_live (entry_at s rd level n) ≡ false) split idle)

-- ---- the root

-- a root covers a whole address space, by which of the two it is
root_covers_by : (width level : ℕ) (large small : Bool)
    → (width == 0x27 && level == 1) ≡ large → (width == 0x30 && level == 0) ≡ small → (large || small) ≡ true
    → (level ≤ 1) × (table_size level ≡ 2 ^ width)
unfolding table_size
root_covers_by width level true small is _ _ =
    let parts = and_parts (width == 0x27) (level == 1) is in
    let w = eqb-true width 0x27 parts.0 in
    let l = eqb-true level 1 parts.1 in
    rw (w, l) (omega arith, refl)
root_covers_by width level false true _ is _ =
    let parts = and_parts (width == 0x30) (level == 0) is in
    let w = eqb-true width 0x30 parts.0 in
    let l = eqb-true level 0 parts.1 in
    rw (w, l) (omega arith, refl)
root_covers_by width level false false _ _ none = both_ways none refl

-- a root covers a whole address space
pub root_covers : (width level : ℕ) → is_space width level ≡ true → (level ≤ 1) × (table_size level ≡ 2 ^ width)
root_covers width level space = root_covers_by width level (width == 0x27 && level == 1) (width == 0x30 && level == 0) refl refl space

-- less than one unit is none
below_one : (n unit : ℕ) → n * unit < unit → n ≡ 0
below_one zero unit below = refl
below_one (suc n) unit below = absurd (omega arith)

-- a table of the root's level is the root
pub root-first : (s : State) (rd number granule : ℕ) (r : RealmRecord)
    → IsSound s → s.realm rd ≡ Some r → s.table rd r.start_level number ≡ Some granule → number ≡ 0
root-first s rd number granule r sound is table =
    let owner = sound.tables.owned rd r.start_level number granule table in
    let same : owner.0 ≡ r = let both : Some owner.0 ≡ Some r = sym owner.1 ∙ is in cc in
    let inside : number * table_size r.start_level < full r =
    subst (λ (q : RealmRecord). number * table_size r.start_level < full q) same owner.2.inside in
    let size = (root_covers r.width r.start_level (sound.realms.spaces rd r is)).1 in
    below_one number (full r) (rw size at inside)

-- a realm whose root has no link has no table below it
unlinked-alone : (s : State) (rd : ℕ) (r : RealmRecord) → IsSound s → s.realm rd ≡ Some r → has_link s rd r.start_level 0 ≡ false
    → (d number : ℕ) → is_some (s.table rd (suc (r.start_level + d)) number) ≡ true → ⊥
unfolding has_entry
unlinked-alone s rd r sound is unlinked zero number table =
    let level = r.start_level in
    let plain : level + zero ≡ level = omega arith in
    let found = some_value (s.table rd (suc level) number) (subst (λ l. is_some (s.table rd (suc l) number) ≡ true) plain table) in
    let above = some_value (s.table rd level (number / 512)) (sound.tables.below rd level number found.0 r found.1 is (omega arith)) in
    let first = root-first s rd (number / 512) above.0 r sound is above.1 in
    let within : number < 512 = omega arith in
    let shallow = (root_covers r.width level (sound.realms.spaces rd r is)).0 in
    let next : suc level ≡ level + 1 = omega arith in
    let linked = entry_at-table s rd level number found.0 (omega arith) (subst (λ l. s.table rd l number ≡ Some found.0) next found.1) in
    let zeroth : 512 * 0 + number ≡ number = omega arith in
    both_ways linked (subst (λ n. is_table (entry_at s rd level n) ≡ false) zeroth
    (any_below-false 512 (λ k. is_table (entry_at s rd level (512 * 0 + k))) unlinked number within))
unlinked-alone s rd r sound is unlinked (suc d) number table =
    let level = r.start_level + d in
    let plain : r.start_level + suc d ≡ suc level = omega arith in
    let found = some_value (s.table rd (suc (suc level)) number) (subst (λ l. is_some (s.table rd (suc l) number) ≡ true) plain table) in
    unlinked-alone s rd r sound is unlinked d (number / 512) (sound.tables.below rd (suc level) number found.0 r found.1 is (omega arith))

-- a number from another on is that one, or is past it
first_or_past_by : (a b : ℕ) (more : Bool) → nat_lt a b ≡ more → a ≤ b → (b ≡ a) ⊎ ((d : ℕ) × (b ≡ suc (a + d)))
first_or_past_by a b true is from = let past : a < b = grind (arith, nat_tests) in inr (b - suc a, omega arith)
first_or_past_by a b false is from = let end : b ≤ a = grind (arith, nat_tests) in inl (omega arith)

-- a realm whose root has no link has its root alone
pub unlinked-root : (s : State) (rd level number granule : ℕ) (r : RealmRecord)
    → IsSound s → s.realm rd ≡ Some r → has_link s rd r.start_level 0 ≡ false
    → s.table rd level number ≡ Some granule → (level ≡ r.start_level) × (granule ≡ r.root)
unlinked-root s rd level number granule r sound is unlinked table =
    let owner = sound.tables.owned rd level number granule table in
    let same : owner.0 ≡ r = let both : Some owner.0 ≡ Some r = sym owner.1 ∙ is in cc in
    let from : r.start_level ≤ level = subst (λ (q : RealmRecord). q.start_level ≤ level) same owner.2.below_root in
    elim (first_or_past_by r.start_level level _ refl from) [
      | inl here ↦
          (let first = root-first s rd number granule r sound is (rw here at table) in
          let both : Some granule ≡ Some r.root = sym (rw (here, first) at table) ∙ sound.tables.roots rd r is in
          (here, cc))
      | inr deeper ↦ absurd (unlinked-alone s rd r sound is unlinked deeper.0 number (rw (← deeper.1) (there table)))
    ]
