-- Walks: the recursion finds the deepest table that covers an address, and a walk to the last level ends on no link.
use Rattle.std.proofs.Common.{◌≡◌, ℕ, zero, suc, ◌+◌, ◌-◌, ◌*◌, ◌/◌, ◌%◌, ◌^◌, ◌<◌, ◌≤◌, Bool, true, false, ◌⊎◌, IsTrue, Option, Some, None, is_some, refl, sym, ap, inl, inr, arith, nat_lt, nat_le, add-one, add-zero}
use Rattle.std.proofs.Math.Nat.{div-add-mod, div-div-eq-div-mul, mul-le-mul_left}
use Rattle.std.proofs.lemmas.Bool.Decides.{nat_tests}
use Rattle.rmm_spec.specs.declared.entry.Entry.{Entry}
use Rattle.rmm_spec.specs.declared.entry.Entry.TheVariants.{Unassigned, Assigned, Table, UnassignedNs, AssignedNs}
use Rattle.rmm_spec.specs.State.{State}
use Rattle.rmm_spec.specs.declared.accepted.Stretch.{Stretch}
use Rattle.rmm_spec.specs.Step.Ripas.{can_be_set, IsReached}
use Rattle.lemmas.proofs.Tests.{both_ways}
use Rattle.rmm_spec.specs.Walk.{entry_size, table_size, entry_number, table_number, is_multiple, is_table, linked_entry, entry_at, entry_for, reach, IsWalk}
use Rattle.lemmas.proofs.Options.{none_of, some_value}

-- ---- sizes

-- a table covers what the entry above it covers
pub table_size-suc : (level : ℕ) → table_size (suc level) ≡ entry_size level
unfolding table_size entry_size
table_size-suc level = let same : 4 - suc level ≡ 3 - level = omega arith in ap (λ k. 2 ^ (12 + 9 * k)) same

-- a table's number is that of the entry above it
pub table_number-suc : (level ipa : ℕ) → table_number (suc level) ipa ≡ entry_number level ipa
unfolding table_number entry_number
table_number-suc level ipa = ap (λ size. ipa / size) (table_size-suc level)

-- a table covers what its 512 entries cover
pub table_size-entries : (level : ℕ) → level ≤ 3 → table_size level ≡ 512 * entry_size level
unfolding table_size entry_size
table_size-entries zero within = refl
table_size-entries (suc zero) within = refl
table_size-entries (suc (suc zero)) within = refl
table_size-entries (suc (suc (suc zero))) within = refl
table_size-entries (suc (suc (suc (suc level)))) within = absurd (omega arith)

-- ---- the recursion

-- a number up to the next one is up to this one, or is the next
le_cases : (n m : ℕ) → n ≤ suc m → (n ≤ m) ⊎ (n ≡ suc m)
le_cases n m within = grind arith

-- a table of the level covers the address: it is reached
reach-here : (s : State) (rd ipa l : ℕ) → is_some (s.table rd (suc l) (table_number (suc l) ipa)) ≡ true → reach s rd ipa (suc l) ≡ suc l
unfolding reach
reach-here s rd ipa l there = rw there refl

-- no table of the level covers the address: the walk ends above it
pub reach-below : (s : State) (rd ipa l : ℕ)
    → is_some (s.table rd (suc l) (table_number (suc l) ipa)) ≡ false → reach s rd ipa (suc l) ≡ reach s rd ipa l
unfolding reach
reach-below s rd ipa l nothing = rw nothing refl

-- a walk to level 0 ends there
pub reach-zero : (s : State) (rd ipa : ℕ) → reach s rd ipa 0 ≡ 0
unfolding reach
reach-zero s rd ipa = refl

-- one level more, by whether a table of it covers the address
reach-le-by : (s : State) (rd ipa l : ℕ) (test : Bool) → is_some (s.table rd (suc l) (table_number (suc l) ipa)) ≡ test
    → reach s rd ipa l ≤ l → reach s rd ipa (suc l) ≤ suc l
reach-le-by s rd ipa l true there earlier = omega (arith, reach-here s rd ipa l there)
reach-le-by s rd ipa l false nothing earlier = omega (arith, reach-below s rd ipa l nothing)

-- a walk ends by the level that it may reach
pub reach-le : (s : State) (rd ipa max : ℕ) → reach s rd ipa max ≤ max
reach-le s rd ipa zero = rw reach-zero (omega arith)
reach-le s rd ipa (suc l) = reach-le-by s rd ipa l _ refl (reach-le s rd ipa l)

-- below the level that is reached no table covers the address
abbrev pub NothingDeeper : State → ℕ → ℕ → ℕ → ℕ → Type 0
NothingDeeper s rd ipa max level = (deeper : ℕ) → level < deeper → deeper ≤ max → s.table rd deeper (table_number deeper ipa) ≡ None

-- one level more, by whether a table of it covers the address
reach-deepest-by : (s : State) (rd ipa l : ℕ) (test : Bool) → is_some (s.table rd (suc l) (table_number (suc l) ipa)) ≡ test
    → NothingDeeper s rd ipa l (reach s rd ipa l) → NothingDeeper s rd ipa (suc l) (reach s rd ipa (suc l))
reach-deepest-by s rd ipa l true there earlier deeper below within = absurd (omega (arith, reach-here s rd ipa l there))
reach-deepest-by s rd ipa l false nothing earlier deeper below within =
    elim (le_cases deeper l within) [
      | inl less ↦ earlier deeper (omega (arith, reach-below s rd ipa l nothing)) less
      | inr here ↦ rw here (none_of _ nothing)
    ]

-- nothing deeper than where the walk ends covers the address
pub reach-deepest : (s : State) (rd ipa max : ℕ) → NothingDeeper s rd ipa max (reach s rd ipa max)
reach-deepest s rd ipa zero deeper below within = absurd (omega (arith, reach-zero s rd ipa))
reach-deepest s rd ipa (suc l) deeper below within = reach-deepest-by s rd ipa l _ refl (reach-deepest s rd ipa l) deeper below within

-- where a table covers the address at a level up to max, one does at the level that is reached, which isn't above
abbrev pub CoversFrom : State → ℕ → ℕ → ℕ → ℕ → Type 0
CoversFrom s rd ipa level reached = (level ≤ reached) × (is_some (s.table rd reached (table_number reached ipa)) ≡ true)

-- one level more, by whether a table of it covers the address
reach-covers-by : (s : State) (rd ipa level l : ℕ) (test : Bool) → is_some (s.table rd (suc l) (table_number (suc l) ipa)) ≡ test
    → is_some (s.table rd level (table_number level ipa)) ≡ true → level ≤ suc l
    → (level ≤ l → CoversFrom s rd ipa level (reach s rd ipa l)) → CoversFrom s rd ipa level (reach s rd ipa (suc l))
reach-covers-by s rd ipa level l true there covers within earlier = rw (reach-here s rd ipa l there) (within, there)
reach-covers-by s rd ipa level l false nothing covers within earlier =
    elim (le_cases level l within) [
      | inl less ↦ rw (reach-below s rd ipa l nothing) (earlier less)
      | inr here ↦ both_ways (rw here at covers) nothing
    ]

-- a table that covers the address is reached, or one below it
pub reach-covers : (s : State) (rd ipa level max : ℕ) → is_some (s.table rd level (table_number level ipa)) ≡ true → level ≤ max
    → CoversFrom s rd ipa level (reach s rd ipa max)
reach-covers s rd ipa level zero covers within =
    let root : level ≡ 0 = omega arith in rw reach-zero (omega arith, rw root at covers)
reach-covers s rd ipa level (suc l) covers within =
    reach-covers-by s rd ipa level l _ refl covers within (λ less. reach-covers s rd ipa level l covers less)

-- the recursion is the walk, wherever a table covers the address
pub reach-is_walk : (s : State) (rd ipa level max granule : ℕ) → s.table rd level (table_number level ipa) ≡ Some granule → level ≤ max
    → (found : ℕ) × IsWalk s rd ipa max (reach s rd ipa max) found (entry_for s rd (reach s rd ipa max) ipa)
reach-is_walk s rd ipa level max granule is_table within =
    let covers : is_some (s.table rd level (table_number level ipa)) ≡ true = rw is_table refl in
    let found = some_value _ (reach-covers s rd ipa level max covers within).1 in (
      found.0,
      record {
        within = reach-le s rd ipa max;
        is_table = found.1;
        deepest = reach-deepest s rd ipa max;
        is_entry = refl;
      },
    )

-- ---- a walk to the last level ends on no link

-- what links to no table is no table
linked_entry-none : (leaf : Option Entry) → is_table (linked_entry None leaf) ≡ false
linked_entry-none None = refl
linked_entry-none (Some (Unassigned ripas)) = refl
linked_entry-none (Some (Assigned ripas granule)) = refl
linked_entry-none (Some (Table granule)) = refl
linked_entry-none (Some UnassignedNs) = refl
linked_entry-none (Some (AssignedNs page)) = refl

-- an entry with no table below it is no link, by whether its level is the last
entry_at-by : (s : State) (rd level number : ℕ) (above : Bool) → nat_lt level 3 ≡ above
    → (level < 3 → s.table rd (level + 1) number ≡ None) → is_table (entry_at s rd level number) ≡ false
unfolding entry_at
entry_at-by s rd level number true above no_table =
    let none : s.table rd (level + 1) number ≡ None = no_table (grind (arith, nat_tests)) in
    rw above (rw none (linked_entry-none (s.leaf rd level number)))
entry_at-by s rd level number false last no_table = rw last (linked_entry-none (s.leaf rd level number))

-- a walk to level 3 ends on no link
pub walk_ends_unlinked : (s : State) (rd ipa : ℕ) → is_table (entry_for s rd (reach s rd ipa 3) ipa) ≡ false
walk_ends_unlinked s rd ipa =
    let level = reach s rd ipa 3 in
    entry_at-by s rd level (entry_number level ipa) _ refl
    (λ above. rw (add-one level) (rw (← (table_number-suc level ipa)) (reach-deepest s rd ipa 3 (suc level) (omega arith) (omega arith))))

-- ---- stretches

-- the two parts of a test that holds

-- an entry that begins at a multiple of its size ends by the end of its table
entry_in_table : (base size : ℕ) → base % size ≡ 0 → base + size ≤ (base / (512 * size) + 1) * (512 * size)
entry_in_table base size multiple =
    let q = base / size in
    let m = q / 512 in
    let base_is : size * q + base % size ≡ base = div-add-mod base size in
    let table_is : q / 512 ≡ base / (size * 512) = div-div-eq-div-mul base size 512 in
    let same : size * 512 ≡ 512 * size = omega arith in
    let number : base / (512 * size) ≡ m = rw (← same) (sym table_is) in
    let below : q + 1 ≤ 512 * (m + 1) = omega arith in
    let scaled : size * (q + 1) ≤ size * (512 * (m + 1)) = mul-le-mul_left size below in
    rw number (omega arith)

-- where an entry is a stretch by itself: it ends by top, and by the end of its table
pub first_reached : (s : State) (stretch : Stretch) → stretch.level ≤ 3
    → IsTrue (is_multiple stretch.base (entry_size stretch.level)) → IsTrue (nat_le (stretch.base + entry_size stretch.level) stretch.top)
    → IsTrue (can_be_set stretch.purpose (entry_for s stretch.rd stretch.level stretch.base))
    → IsReached s stretch (stretch.base + entry_size stretch.level)
unfolding table_number
first_reached s stretch within first ends here =
    let base = stretch.base in
    let level = stretch.level in
    let multiple : base % entry_size level ≡ 0 = grind (arith, nat_tests, first) in
    let by_top : base + entry_size level ≤ stretch.top = grind (arith, nat_tests, ends) in
    record {
      count = 1;
      some = omega arith;
      is_end = omega arith;
      within = by_top;
      in_table = rw (table_size-entries level within) (entry_in_table base (entry_size level) multiple);
      each = λ k first. let none : k ≡ 0 = omega arith in rw (none, add-zero) here;
    }

-- no walk ends above level 0
pub reach-top : (s : State) (rd ipa level : ℕ) → level ≡ 0 → 0 ≡ reach s rd ipa level
unfolding reach
reach-top s rd ipa zero top = refl
reach-top s rd ipa (suc level) top = absurd (omega arith)
