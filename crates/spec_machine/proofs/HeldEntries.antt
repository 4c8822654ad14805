-- The entries of a table of a well-shaped whole are those of its flat state; where no table stands, none keeps it in use but a link above a root.
use Rattle.spec_machine.proofs.Common.{◌%◌, ◌*◌, ◌+◌, ◌/◌, ◌<◌, ◌^◌, ◌∙◌, ◌≡◌, ◌≤◌, Bool, Config, Entry, Granules, IsShapedIn, IsTrue, None, Option, RealmRecord, Some, State, TableRecord, ap, arith, cases_lt, cells_of, config_of, entry_at, false, flat_state, if◌then◌else◌, inl, inr, length, lt-ltb, nat_lt, none-some, refl, same_Some, slice_get, state_in, subst, suc, sym, table_size, true, whole_of, zero, ℕ}
use Rattle.std.proofs.Common.{◌||◌, is_some, add-one}
use Rattle.std.specs.List.{list_any}
use Rattle.std.proofs.lemmas.Bool.{false≢true, le-ltb}
use Rattle.rmm_spec.specs.declared.entry.Entry.TheVariants.{Unassigned}
use Rattle.rmm_spec.specs.declared.entry.EntryTest.{EntryTest}
use Rattle.rmm_spec.specs.declared.tag.Ripas.TheVariants.{Empty}
use Rattle.rmm_spec.specs.Lookup.{any_below}
use Rattle.rmm_spec.specs.Step.Terms.{is_space}
use Rattle.rmm_spec.specs.Walk.{linked_entry, passes, has_entry, full}
use Rattle.rmm_spec.specs.Sound.{IsSound}
use Rattle.rmm_spec.specs.Cell.{Cell, tables_of}
use Rattle.rmm_spec.specs.Flat.{table_granule}
use Rattle.rmm_spec.specs.Shape.{Side, CpuPlace, HoldsTable, IsWellShaped}
use Rattle.rmm_laws.proofs.Entries.{entry-leaf, entry-link}
use Rattle.rmm_laws.proofs.Spaces.{space_cases}
use Rattle.rmm_laws.proofs.Finds.{table_granule-holds, holds-found}
use Rattle.rmm_laws.proofs.ShapeTies.{IsTied-shaped, entry_leaf-some, leaf-found, link_or_leaf, entry_there, number-again, at_place, same_table, well_shaped-is_sound}
use Rattle.spec_lemmas.proofs.TableSearches.{search-places}
use Rattle.spec_machine.specs.Searches.{StandsAs, IsTable, has_unlisted}
use Rattle.spec_machine.specs.Whole.{count_of}
use Rattle.spec_machine.proofs.WalkEnds.{entry-none}

-- ---- one entry

-- an entry of a table of the whole is the flat state's
entry-held : (config : Config) (side : Side) (places : ℕ → CpuPlace) (cells : ℕ → Cell) → (w : IsWellShaped config side places cells)
    → (g rd level number : ℕ) (e : Entry) → (holds : HoldsTable (tables_of cells) g rd level (number / 512))
    → slice_get holds.table.entries (number % 512) ≡ Some e → entry_at (flat_state config cells) rd level number ≡ e
unfolding flat_state
entry-held config side places cells w g rd level number e holds at =
    let s = flat_state config cells in
    let sound = well_shaped-is_sound config side places cells w in
    let found : (g rd level number : ℕ)
    → HoldsTable (tables_of cells) g rd level number → table_granule config.granules (tables_of cells) rd level number ≡ Some g =
    λ g rd level number holds. holds-found config.granules (tables_of cells) g rd level number
    (IsTied-shaped config side places cells w).tables.found holds in
    elim (link_or_leaf e) [
      | inl link ↦ entry-link s sound rd level number link.0 (found link.0 rd (suc level) number
          (subst (λ n. HoldsTable (tables_of cells) link.0 rd (suc level) n) (number-again number)
          (at_place (λ a b c. HoldsTable (tables_of cells) link.0 a (suc b) (512 * c + number % 512)) holds
          (w.tables.links g (number % 512) link.0 holds.table holds.is_held (at ∙ ap Some link.1))))) ∙ sym link.1
      | inr leaf ↦ entry-leaf s sound rd level number e
          (leaf-found config.granules (tables_of cells) rd level number g holds.table (found g rd level (number / 512) holds) holds.is_held
          ∙ entry_leaf-some holds.table.entries (number % 512) e at leaf)
    ]

pub entry-stands : (g : Granules) → IsShapedIn g → (rd level number : ℕ) (t : TableRecord) (e : Entry) → StandsAs g rd level (number / 512) t
    → slice_get t.entries (number % 512) ≡ Some e → e ≡ entry_at (state_in g) rd level number
unfolding state_in flat_state
entry-stands g shaped rd level number t e stands at =
    let w = whole_of g in
    let holds = table_granule-holds (count_of g) (tables_of w.cells) rd level (number / 512) stands.granule stands.is_found in
    let same = same_table (tables_of w.cells) stands.granule t holds.table stands.is_held holds.is_held in
    sym (entry-held (config_of g) w.side w.places w.cells shaped stands.granule rd level number e holds
    (ap (λ (t : TableRecord). slice_get t.entries (number % 512)) (sym same) ∙ at))

-- ---- searches through a table

module _ (g : Granules) (shaped : IsShapedIn g) (rd level number : ℕ) where
  whole-table : (t : TableRecord) → StandsAs g rd level number t → length t.entries ≡ 512
  whole-table t stands = shaped.tables.whole stands.granule t stands.is_held

  each-entry : (t : TableRecord) → StandsAs g rd level number t → (k : ℕ) → k < 512
      → slice_get t.entries k ≡ Some (entry_at (state_in g) rd level (512 * number + k))
  each-entry t stands k below =
      let e = entry_there t.entries k (whole-table t stands) below in
      let up : (512 * number + k) / 512 ≡ number = omega (arith, below) in
      let low : (512 * number + k) % 512 ≡ k = omega (arith, below) in
      e.1 ∙ ap Some (entry-stands g shaped rd level (512 * number + k) t e.0
      (subst (λ n. StandsAs g rd level n t) (sym up) stands) (ap (slice_get t.entries) low ∙ e.1))

  search-table : (p : Entry → Bool) (t : TableRecord) → StandsAs g rd level number t
      → list_any p t.entries ≡ any_below 512 (λ k. p (entry_at (state_in g) rd level (512 * number + k)))
  search-table p t stands =
      search-places p t.entries (λ k. p (entry_at (state_in g) rd level (512 * number + k)))
      (λ k e below at. ap p (same_Some e (entry_at (state_in g) rd level (512 * number + k))
      (sym at ∙ each-entry t stands k (omega (arith, below, whole-table t stands)))))
      ∙ ap (λ n. any_below n (λ k. p (entry_at (state_in g) rd level (512 * number + k)))) (whole-table t stands)

  pub has_entry-table : (t : TableRecord) (test : EntryTest)
      → StandsAs g rd level number t → list_any (passes test) t.entries ≡ has_entry (state_in g) rd level number test
  unfolding has_entry
  has_entry-table t test stands = search-table (passes test) t stands

-- ---- where no table stands

-- where all numbers but the first are alike, the first or another passes
any_below-first : (n : ℕ) (p : ℕ → Bool) (rest : Bool) → ((k : ℕ) → 0 < k → k ≤ suc n → p k ≡ rest) → any_below (suc (suc n)) p ≡ (p 0 || rest)
any_below-first zero p rest others = rw (others 1 (omega arith) (omega arith)) (by rest (p 0))
  where
    by : (a b : Bool) → (a || (b || false)) ≡ (b || a)
    by true true = refl
    by true false = refl
    by false true = refl
    by false false = refl
any_below-first (suc n) p rest others =
    rw (others (suc (suc n)) (omega arith) (omega arith), any_below-first n p rest (λ k some below. others k some (omega (arith, below))))
    (by rest (p 0))
  where
    by : (a b : Bool) → (a || (b || a)) ≡ (b || a)
    by true true = refl
    by true false = refl
    by false b = refl

module _ (s : State) (sound : IsSound s) (rd level number : ℕ) (none : s.table rd level number ≡ None) where
  -- below a table that doesn't stand none stands but the root
  below-none : (n : ℕ) → n / 512 ≡ number → 0 < n → (found : Option ℕ) → s.table rd (suc level) n ≡ found → found ≡ None
  unfolding table_size
  below-none n up some None at = refl
  below-none n up some (Some g) at =
      let owner = sound.tables.owned rd (suc level) n g at in
      elim (cases_lt level owner.0.start_level) [
        | inl top ↦ absurd (at_root owner.0 (sound.realms.spaces rd owner.0 owner.1) (omega (arith, top, owner.2.below_root)) owner.2.inside)
        | inr under ↦ absurd (false≢true (sym (ap is_some none) ∙ ap (λ m. is_some (s.table rd level m)) (sym up)
            ∙ sound.tables.below rd level n g owner.0 at owner.1 under))
      ]
    where
      at_root : (r : RealmRecord) → IsTrue (is_space r.width r.start_level) → r.start_level ≡ suc level → n * table_size (suc level) < full r → ⊥
      at_root r space start inside = elim (space_cases r.width r.start_level space) [
        | inl small ↦ (let level_is : suc level ≡ 1 = sym start ∙ small.1 in
            let within : n * table_size (suc level) < 2 ^ 39 = rw small.0 at inside in
            let at_one : n * table_size 1 < 2 ^ 39 = subst (λ l. n * table_size l < 2 ^ 39) level_is within in
            absurd (omega (arith, at_one, some)))
        | inr large ↦ absurd (omega (arith, start, large.1))
      ]

  -- so all entries but the first have nothing
  unlisted-none : (n : ℕ) → n / 512 ≡ number → 0 < n → entry_at s rd level n ≡ Unassigned Empty
  unlisted-none n up some =
      entry-none s sound rd level n (ap (s.table rd level) up ∙ none)
      ∙ by (nat_lt level 3) (s.table rd (level + 1) n) (ap (λ l. s.table rd l n) (add-one level) ∙ below-none n up some _ refl)
    where
      by : (b : Bool) (found : Option ℕ) → found ≡ None → linked_entry (if b then found else None) None ≡ Unassigned Empty
      by true found is = ap (λ (o : Option ℕ). linked_entry o None) is
      by false found is = refl

  pub has_entry-none : (test : EntryTest) → has_unlisted s rd level number test ≡ has_entry s rd level number test
  unfolding has_entry
  has_entry-none test =
      let first : 512 * number + 0 ≡ 512 * number = omega arith in
      sym (any_below-first 510 (λ k. passes test (entry_at s rd level (512 * number + k))) (passes test (Unassigned Empty))
      (λ k some below. ap (passes test) (unlisted-none (512 * number + k) (omega (arith, below)) (omega (arith, some))))
      ∙ ap (λ n. passes test (entry_at s rd level n) || passes test (Unassigned Empty)) first)

  -- the entry where no table has it
  pub unlisted-last : (n : ℕ) → n / 512 ≡ number → 3 ≤ level → Unassigned Empty ≡ entry_at s rd level n
  unlisted-last n up last =
      let past : nat_lt level 3 ≡ false = le-ltb level 3 last in
      sym (entry-none s sound rd level n (ap (s.table rd level) up ∙ none)
      ∙ ap (λ b. linked_entry (if b then s.table rd (level + 1) n else None) None) past)

  pub unlisted-above : (n : ℕ) (found : Option ℕ)
      → n / 512 ≡ number → level < 3 → found ≡ s.table rd (level + 1) n → linked_entry found None ≡ entry_at s rd level n
  unlisted-above n found up above is =
      ap (λ o. linked_entry o None) is
      ∙ sym (entry-none s sound rd level n (ap (s.table rd level) up ∙ none)
      ∙ ap (λ b. linked_entry (if b then s.table rd (level + 1) n else None) None) (lt-ltb level 3 above))

-- what lies in the granule where a table stands is the table
pub stands-found : (g : Granules) (rd level number granule : ℕ) (found : Option TableRecord) → (state_in g).table rd level number ≡ Some granule
    → found ≡ tables_of (cells_of g.list) granule → IsTable g rd level number found
unfolding state_in flat_state
stands-found g rd level number granule None at is =
    let holds = table_granule-holds (count_of g) (tables_of (cells_of g.list)) rd level number granule at in
    absurd (none-some holds.table (is ∙ holds.is_held))
stands-found g rd level number granule (Some t) at is = record { granule = granule; is_found = at; is_held = sym is }
