-- A plain set of tables: the table of each granule, by the granule's number.
use Rattle.std.specs.Prelude.{ℕ, suc, ◌*◌, List, [], ◌∷◌, Option, Some, None}
use Rattle.rmm_spec.specs.Table.{TableRecord}
use Rattle.rmm_spec.specs.TableCells.{TableCell}

-- the tables with their granules, of which the first has the number k
unfoldable pub cells_from : ℕ → List (Option TableRecord) → List TableCell
cells_from k [] = []
cells_from k (None ∷ tables) = cells_from (suc k) tables
cells_from k (Some table ∷ tables) = record { granule = k * 4096; table = table } ∷ cells_from (suc k) tables

-- the table of a granule, by its number
abbrev pub table_or_none : Option (Option TableRecord) → Option TableRecord
table_or_none None = None
table_or_none (Some table) = table
