-- What a CPU finds among the cells that it holds. This project's own.
use Rattle.std.specs.Prelude.{ℕ, Bool, ◌==◌, if◌then◌else◌, List, [], ◌∷◌, Option, Some, None, is_some, unwrap_or}
use Rattle.rmm_spec.specs.Cell.{Cell, Undelegated}
use Rattle.rmm_spec.specs.Local.{HeldCell}

-- the cell that is held at a granule
abbrev pub cell_in : ℕ → List HeldCell → Option Cell
cell_in granule [] = None
cell_in granule (h ∷ held) = if h.granule == granule then Some h.cell else cell_in granule held

abbrev pub is_held : ℕ → List HeldCell → Bool
is_held granule held = is_some (cell_in granule held)

-- what lies in a granule as far as is known: one that isn't held counts as undelegated
abbrev pub known_cell : List HeldCell → ℕ → Cell
known_cell held granule = unwrap_or (cell_in granule held) Undelegated
