-- A well-shaped whole that has what is held: its cells at the granules that are held.
use Rattle.world_laws.proofs.Common.{◌==◌, ◌∙◌, ◌∷◌, ◌≡◌, Bool, Cell, Config, HeldCell, IsTrue, List, Option, Side, Some, State, [], ap, false, false≢true, flat_state, if◌then◌else◌, is_held, is_some, refl, subst, table_held, tables_of, true, ℕ}
use Rattle.std.proofs.Common.{eqb-true}
use Rattle.std.specs.Prelude.{Contains, unwrap_or}
use Rattle.std.proofs.lemmas.Option.{option_and_then_some}
use Rattle.rmm_spec.specs.Table.{TableRecord}
use Rattle.rmm_spec.specs.Sound.{IsSound}
use Rattle.rmm_spec.specs.Cell.{Undelegated, table_in}
use Rattle.rmm_spec.specs.Shape.{CpuPlace, IsWellShaped}
use Rattle.rmm_spec.specs.Local.{granules_held, Agrees}
use Rattle.rmm_laws.proofs.ShapeTies.{well_shaped-is_sound}
use Rattle.world_laws.specs.Held.{cell_in, known_cell}
use Rattle.lemmas.proofs.Members.{Contains-head, Contains-tail}

pub record Whole (config : Config) (side : Side) (held : List HeldCell) : Type 0 where
  pub cells : ℕ → Cell
  pub places : ℕ → CpuPlace
  pub shaped : IsWellShaped config side places cells
  pub agrees : Agrees cells held

abbrev pub state : {config : Config} {side : Side} {held : List HeldCell} → Whole config side held → State
state {config} {side} {held} w = flat_state config w.cells

pub sound : {config : Config} {side : Side} {held : List HeldCell} (w : Whole config side held) → IsSound (flat_state config w.cells)
sound {config} {side} {held} w = well_shaped-is_sound config side w.places w.cells w.shaped

-- ---- cells

known-same : (held : List HeldCell) (cells : ℕ → Cell) (g : ℕ) → Agrees cells held → IsTrue (is_held g held) → cells g ≡ known_cell held g
known-same [] cells g agrees has = absurd (false≢true has)
known-same (h ∷ held) cells g agrees has = by (h.granule == g) refl (known-same held cells g agrees.1) has
  where
    by : (b : Bool) → (h.granule == g) ≡ b → (IsTrue (is_held g held) → cells g ≡ known_cell held g)
        → IsTrue (is_some (if b then Some h.cell else cell_in g held)) → cells g ≡ unwrap_or (if b then Some h.cell else cell_in g held) Undelegated
    by true same rest here = subst (λ x. cells x ≡ h.cell) (eqb-true h.granule g same) agrees.0
    by false apart rest here = rest here

-- the whole's cell at a granule that is held
pub same_at : {config : Config} {side : Side} {held : List HeldCell} (w : Whole config side held) (g : ℕ)
    → IsTrue (is_held g held) → w.cells g ≡ known_cell held g
same_at {config} {side} {held} w g has = known-same held w.cells g w.agrees has

pub whole_cell : {config : Config} {side : Side} {held : List HeldCell} (w : Whole config side held) (g : ℕ) (c : Cell)
    → cell_in g held ≡ Some c → w.cells g ≡ c
whole_cell {config} {side} {held} w g c found =
    same_at w g (ap (λ (o : Option Cell). is_some o) found) ∙ ap (λ (o : Option Cell). unwrap_or o Undelegated) found

-- a table that is held is the whole's
pub whole_table : {config : Config} {side : Side} {held : List HeldCell} (w : Whole config side held) (g : ℕ) (t : TableRecord)
    → table_held held g ≡ Some t → tables_of w.cells g ≡ Some t
whole_table {config} {side} {held} w g t is =
    option_and_then_some table_in (cell_in g held) t is (λ c found table. ap table_in (whole_cell w g c found) ∙ table)

-- a granule whose cell is found is in the list
pub held-contains : (held : List HeldCell) (g : ℕ) → IsTrue (is_held g held) → Contains (granules_held held) g
held-contains [] g has = absurd (false≢true has)
held-contains (h ∷ held) g has = by (h.granule == g) refl (held-contains held g) has
  where
    by : (b : Bool) → (h.granule == g) ≡ b → (IsTrue (is_held g held) → Contains (granules_held held) g)
        → IsTrue (is_some (if b then Some h.cell else cell_in g held)) → Contains (h.granule ∷ granules_held held) g
    by true same rest here =
        subst (λ x. Contains (h.granule ∷ granules_held held) x) (eqb-true h.granule g same) (Contains-head h.granule (granules_held held))
    by false apart rest here = Contains-tail h.granule (granules_held held) g (rest here)

pub table-is_held : (held : List HeldCell) (g : ℕ) (t : TableRecord) → table_held held g ≡ Some t → IsTrue (is_held g held)
table-is_held held g t is = option_and_then_some table_in (cell_in g held) t is (λ c found table. ap (λ (o : Option Cell). is_some o) found)
