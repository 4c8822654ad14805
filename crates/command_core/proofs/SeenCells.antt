-- Which granules are held.
use Rattle.command_core.proofs.Common.{◌==◌, ◌∷◌, ◌≡◌, Bool, HeldCell, List, Some, [], cell_in, false, if◌then◌else◌, is_held, is_some, refl, replaced_cells, true, ℕ}
use Rattle.rmm_spec.specs.Cell.{Cell}
pub use Rattle.world_laws.proofs.Wholes.{held-contains}

-- what is held is held, whatever its cells are
pub is_held-replaced_cells : (held : List HeldCell) (g granule : ℕ) (cell : Cell) → is_held g (replaced_cells held granule cell) ≡ is_held g held
is_held-replaced_cells [] g granule cell = refl
is_held-replaced_cells (h ∷ held) g granule cell = by (h.granule == g) (is_held-replaced_cells held g granule cell)
  where
    by : (b : Bool) → is_held g (replaced_cells held granule cell) ≡ is_held g held
        → is_some (if b then Some (if h.granule == granule then cell else h.cell) else cell_in g (replaced_cells held granule cell))
        ≡ is_some (if b then Some h.cell else cell_in g held)
    by true rest = refl
    by false rest = rest
