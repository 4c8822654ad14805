-- What a monitor finds among the cells that it holds. This project's own.
use Rattle.std.specs.Prelude.{ℕ, Bool, true, not, ◌&&◌, ◌==◌, List, [], ◌∷◌}
use Rattle.std.specs.List.{list_any}
pub use Rattle.granule_cells.specs.Seen.{cell_of, place_of}
pub use Rattle.world_laws.specs.Held.{cell_in, is_held, known_cell}

-- no granule stands in the list twice
abbrev pub are_distinct : List ℕ → Bool
are_distinct [] = true
are_distinct (granule ∷ others) = not (list_any (λ other. other == granule) others) && are_distinct others
