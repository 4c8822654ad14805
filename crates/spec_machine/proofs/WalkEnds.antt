-- The walk by links is the walk of the flat state, and a table is found by a walk to the first address that it covers.
use Rattle.spec_machine.proofs.Common.{◌*◌, ◌+◌, ◌/◌, ◌<◌, ◌^◌, ◌∙◌, ◌≡◌, ◌≤◌, Entry, IsTrue, None, Option, RealmRecord, Some, State, ap, arith, cases_lt, entry_at, entry_number, if◌then◌else◌, inl, inr, nat_lt, refl, subst, suc, sym, table_number, table_size, zero, ℕ}
use Rattle.std.proofs.Common.{is_some}
use Rattle.std.specs.Prelude.{unwrap_or}
use Rattle.std.proofs.lemmas.Bool.{false≢true}
use Rattle.rmm_spec.specs.declared.entry.Entry.TheVariants.{Unassigned, Table}
use Rattle.rmm_spec.specs.declared.tag.Ripas.TheVariants.{Empty}
use Rattle.rmm_spec.specs.Step.Terms.{is_space}
use Rattle.rmm_spec.specs.Walk.{entry_for, linked_entry, reach, walk, full, IsWalk}
use Rattle.rmm_spec.specs.Sound.{IsSound}
use Rattle.spec_lemmas.proofs.WalkLaws.{table_number-suc, reach-zero, reach-le, reach-covers, reach-below}
use Rattle.rmm_laws.proofs.Entries.{entry-link}
use Rattle.rmm_laws.proofs.Spaces.{space_cases}
use Rattle.rmm_laws.proofs.Walked.{table_number-entry, start_above, root_number}
use Rattle.spec_machine.specs.Walks.{StartsAt}

-- where a walk ends there is one end
walk-level : (s : State) (rd ipa max level granule : ℕ) (entry : Entry) → IsWalk s rd ipa max level granule entry → reach s rd ipa max ≡ level
walk-level s rd ipa max level granule entry walks =
    let reached = reach-covers s rd ipa level max (ap is_some walks.is_table) walks.within in
    elim (cases_lt level (reach s rd ipa max)) [
      | inl deeper ↦ absurd (false≢true (sym (ap is_some (walks.deepest (reach s rd ipa max) deeper (reach-le s rd ipa max))) ∙ reached.1))
      | inr above ↦ omega (arith, above, reached.0)
    ]

pub walk-is : (s : State) (rd ipa max level granule : ℕ) (entry : Entry) → IsWalk s rd ipa max level granule entry
    → record { level = level; granule = granule; entry = entry } ≡ walk s rd ipa max
walk-is s rd ipa max level granule entry walks =
    let at = walk-level s rd ipa max level granule entry walks in
    let here : granule ≡ unwrap_or (s.table rd (reach s rd ipa max) (table_number (reach s rd ipa max) ipa)) 0 =
    sym (ap (λ l. unwrap_or (s.table rd l (table_number l ipa)) 0) at ∙ ap (λ (o : Option ℕ). unwrap_or o 0) walks.is_table) in
    let its : entry ≡ entry_for s rd (reach s rd ipa max) ipa = walks.is_entry ∙ sym (ap (λ l. entry_for s rd l ipa) at) in
    λ i. record { level = sym at i; granule = here i; entry = its i }

-- ---- where no table covers the address

-- a table below the end of its realm's space covers addresses of that space alone
covered-inside : (r : RealmRecord) → IsTrue (is_space r.width r.start_level) → (level ipa : ℕ) → r.start_level ≤ level → level ≤ 3
    → table_number level ipa * table_size level < full r → ipa < full r
unfolding table_number table_size
covered-inside r space level ipa under last inside = elim (space_cases r.width r.start_level space) [
  | inl small ↦ rw small.0 (of_small level (rw small.1 at under) last (rw small.0 at inside))
  | inr large ↦ rw large.0 (of_large level last (rw large.0 at inside))
]
  where
    of_small : (l : ℕ) → 1 ≤ l → l ≤ 3 → ipa / table_size l * table_size l < 2 ^ 39 → ipa < 2 ^ 39
    of_small zero under last inside = absurd (omega arith)
    of_small (suc zero) under last inside = omega arith
    of_small (suc (suc zero)) under last inside = omega arith
    of_small (suc (suc (suc zero))) under last inside = omega arith
    of_small (suc (suc (suc (suc l)))) under last inside = absurd (omega arith)

    of_large : (l : ℕ) → l ≤ 3 → ipa / table_size l * table_size l < 2 ^ 48 → ipa < 2 ^ 48
    of_large zero last inside = omega arith
    of_large (suc zero) last inside = omega arith
    of_large (suc (suc zero)) last inside = omega arith
    of_large (suc (suc (suc zero))) last inside = omega arith
    of_large (suc (suc (suc (suc l)))) last inside = absurd (omega arith)

-- an address out of its realm's space is covered by no table
abbrev pub IsElsewhere : State → ℕ → ℕ → Type 0
IsElsewhere s rd ipa = (r : RealmRecord) → s.realm rd ≡ Some r → ipa < full r → ⊥

elsewhere-none : (s : State) → IsSound s → (rd ipa level : ℕ) → IsElsewhere s rd ipa → (found : Option ℕ)
    → s.table rd level (table_number level ipa) ≡ found → found ≡ None
elsewhere-none s sound rd ipa level elsewhere None at = refl
elsewhere-none s sound rd ipa level elsewhere (Some granule) at =
    let owner = sound.tables.owned rd level (table_number level ipa) granule at in
    absurd (elsewhere owner.0 owner.1
    (covered-inside owner.0 (sound.realms.spaces rd owner.0 owner.1) level ipa owner.2.below_root owner.2.last owner.2.inside))

reach-none : (s : State) (rd ipa max : ℕ) → ((level : ℕ) → s.table rd level (table_number level ipa) ≡ None) → reach s rd ipa max ≡ 0
reach-none s rd ipa zero none = reach-zero s rd ipa
reach-none s rd ipa (suc l) none = reach-below s rd ipa l (ap is_some (none (suc l))) ∙ reach-none s rd ipa l none

-- a leaf stands in a table
leaf-none : (s : State) → IsSound s → (rd level number : ℕ) → s.table rd level (number / 512) ≡ None
    → (found : Option Entry) → s.leaf rd level number ≡ found
    → found ≡ None
leaf-none s sound rd level number none None at = refl
leaf-none s sound rd level number none (Some e) at =
    absurd (false≢true (sym (ap is_some none) ∙ sound.leaves.placed rd level number e at))

-- the entry where no table stands links to what stands below, or is none
pub entry-none : (s : State) → IsSound s → (rd level number : ℕ) → s.table rd level (number / 512) ≡ None
    → entry_at s rd level number ≡ linked_entry (if nat_lt level 3 then s.table rd (level + 1) number else None) None
unfolding entry_at
entry-none s sound rd level number none =
    ap (linked_entry (if nat_lt level 3 then s.table rd (level + 1) number else None)) (leaf-none s sound rd level number none _ refl)

top-number : (ipa : ℕ) → table_number 0 ipa ≡ entry_number 0 ipa / 512
top-number ipa = table_number-entry 0 ipa (omega arith)

pub walk-elsewhere : (s : State) → IsSound s → (rd ipa max : ℕ) → IsElsewhere s rd ipa
    → record { level = 0; granule = 0; entry = Unassigned Empty } ≡ walk s rd ipa max
walk-elsewhere s sound rd ipa max elsewhere =
    let none : (level : ℕ) → s.table rd level (table_number level ipa) ≡ None = λ level. elsewhere-none s sound rd ipa level elsewhere _ refl in
    let at : 0 ≡ reach s rd ipa max = sym (reach-none s rd ipa max none) in
    let here : 0 ≡ unwrap_or (s.table rd (reach s rd ipa max) (table_number (reach s rd ipa max) ipa)) 0 =
    sym (ap (λ (o : Option ℕ). unwrap_or o 0) (none (reach s rd ipa max))) in
    let above : s.table rd 0 (entry_number 0 ipa / 512) ≡ None = ap (s.table rd 0) (sym (top-number ipa)) ∙ none 0 in
    let below : s.table rd 1 (entry_number 0 ipa) ≡ None = ap (s.table rd 1) (sym (table_number-suc 0 ipa)) ∙ none 1 in
    let its : entry_for s rd 0 ipa ≡ Unassigned Empty =
    entry-none s sound rd 0 (entry_number 0 ipa) above ∙ ap (λ (o : Option ℕ). linked_entry o None) below in
    λ i. record { level = at i; granule = here i; entry = (sym its ∙ ap (λ l. entry_for s rd l ipa) at) i }

-- ---- above a root

-- a walk that ends above the root finds the link to it
pub walk-above : (s : State) → IsSound s → (rd ipa max root level : ℕ) → StartsAt s rd ipa root level → max < level
    → record { level = 0; granule = 0; entry = Table root } ≡ walk s rd ipa max
walk-above s sound rd ipa max root level start less =
    let r = start.realm in
    let space = sound.realms.spaces rd r start.is_realm in
    let first : max ≡ 0 = omega (arith, start_above r space, start.is_level, less) in
    let below : r.start_level ≡ 1 = omega (arith, start_above r space, start.is_level, less) in
    let at : 0 ≡ reach s rd ipa max = sym (ap (reach s rd ipa) first ∙ reach-zero s rd ipa) in
    let top : s.table rd 0 (table_number 0 ipa) ≡ None = no_top r start.is_realm below (table_number 0 ipa) _ refl in
    let here : 0 ≡ unwrap_or (s.table rd (reach s rd ipa max) (table_number (reach s rd ipa max) ipa)) 0 =
    sym (ap (λ l. unwrap_or (s.table rd l (table_number l ipa)) 0) (sym at) ∙ ap (λ (o : Option ℕ). unwrap_or o 0) top) in
    let number : entry_number 0 ipa ≡ 0 =
    sym (table_number-suc 0 ipa) ∙ ap (λ l. table_number l ipa) (sym below) ∙ root_number r space ipa start.inside in
    let root_there : s.table rd 1 (entry_number 0 ipa) ≡ Some root =
    ap (s.table rd 1) number ∙ ap (λ l. s.table rd l 0) (sym below) ∙ sound.tables.roots rd r start.is_realm ∙ ap Some start.is_root in
    let its : entry_for s rd 0 ipa ≡ Table root = entry-link s sound rd 0 (entry_number 0 ipa) root root_there in
    λ i. record { level = at i; granule = here i; entry = (sym its ∙ ap (λ l. entry_for s rd l ipa) at) i }
  where
    no_top : (r : RealmRecord) → s.realm rd ≡ Some r → r.start_level ≡ 1
        → (number : ℕ) (found : Option ℕ) → s.table rd 0 number ≡ found → found ≡ None
    no_top r realm below number None at = refl
    no_top r realm below number (Some g) at =
        let owner = sound.tables.owned rd 0 number g at in
        let same : owner.0.start_level ≡ r.start_level = ap (λ (o : Option RealmRecord). start_in o) (sym owner.1 ∙ realm) in
        absurd (omega (arith, owner.2.below_root, same, below))
      where
        start_in : Option RealmRecord → ℕ
        start_in None = 0
        start_in (Some r) = r.start_level

-- ---- one table

-- a table has a level, and lies in its realm's space
module _ (s : State) (sound : IsSound s) (rd level number : ℕ) where
  pub table-large : (level ≤ 3 → number * table_size level < 2 ^ 64 → ⊥) → (found : Option ℕ) → s.table rd level number ≡ found → None ≡ found
  table-large large None at = refl
  table-large large (Some g) at =
      let owner = sound.tables.owned rd level number g at in
      absurd (large owner.2.last (elim (space_cases owner.0.width owner.0.start_level (sound.realms.spaces rd owner.0 owner.1)) [
        | inl small ↦ (let within : number * table_size level < 2 ^ 39 = rw small.0 at owner.2.inside in omega arith)
        | inr wide ↦ (let within : number * table_size level < 2 ^ 48 = rw wide.0 at owner.2.inside in omega arith)
      ]))

  pub table-elsewhere : (ipa : ℕ) → ipa ≡ number * table_size level → IsElsewhere s rd ipa → (found : Option ℕ)
      → s.table rd level number ≡ found → None ≡ found
  table-elsewhere ipa at elsewhere None is = refl
  table-elsewhere ipa at elsewhere (Some g) is =
      let owner = sound.tables.owned rd level number g is in
      absurd (elsewhere owner.0 owner.1 (subst (λ n. n < full owner.0) (sym at) owner.2.inside))

  pub table-above : (r : RealmRecord) → s.realm rd ≡ Some r → level < r.start_level → (found : Option ℕ)
      → s.table rd level number ≡ found → None ≡ found
  table-above r realm above None at = refl
  table-above r realm above (Some g) at =
      let owner = sound.tables.owned rd level number g at in
      let same : owner.0.start_level ≡ r.start_level = ap (λ (o : Option RealmRecord). start_in o) (sym owner.1 ∙ realm) in
      absurd (omega (arith, owner.2.below_root, same, above))
    where
      start_in : Option RealmRecord → ℕ
      start_in None = 0
      start_in (Some r) = r.start_level

-- the first address of a table is covered by it
first-number : (level number ipa : ℕ) → level ≤ 3 → ipa ≡ number * table_size level → table_number level ipa ≡ number
unfolding table_number table_size
first-number level number ipa last at = ap (λ n. n / table_size level) at ∙ by level last
  where
    by : (l : ℕ) → l ≤ 3 → number * table_size l / table_size l ≡ number
    by zero last = omega arith
    by (suc zero) last = omega arith
    by (suc (suc zero)) last = omega arith
    by (suc (suc (suc zero))) last = omega arith
    by (suc (suc (suc (suc l)))) last = absurd (omega arith)

-- a walk to it ends at its level just where it stands
pub walk-here : (s : State) (rd level number ipa granule : ℕ) (entry : Entry) → level ≤ 3 → ipa ≡ number * table_size level
    → IsWalk s rd ipa level level granule entry → Some granule ≡ s.table rd level number
walk-here s rd level number ipa granule entry last at walks =
    sym (ap (s.table rd level) (sym (first-number level number ipa last at)) ∙ walks.is_table)

pub walk-short : (s : State) (rd level number ipa end granule : ℕ) (entry : Entry) → level ≤ 3 → ipa ≡ number * table_size level
    → IsWalk s rd ipa level end granule entry → (end ≡ level → ⊥) → None ≡ s.table rd level number
walk-short s rd level number ipa end granule entry last at walks short =
    sym (ap (s.table rd level) (sym (first-number level number ipa last at))
    ∙ walks.deepest level (omega (arith, walks.within, short)) (omega arith))
