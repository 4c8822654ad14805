-- The whole that the granules of a machine make, and the flat state that it stands for.
use Rattle.std.specs.Prelude.{ℕ, zero, suc, ◌/◌, if◌then◌else◌, List, [], ◌∷◌, ◌++◌, Option, Some, None, slice_index_or}
use Rattle.rmm_spec.specs.HistoryText.{Config}
use Rattle.rmm_spec.specs.Lookup.{is_granule}
use Rattle.rmm_spec.specs.State.{State}
use Rattle.rmm_spec.specs.Table.{TableRecord}
use Rattle.rmm_spec.specs.TableCells.{TableCell}
use Rattle.rmm_spec.specs.Cell as spec
use Rattle.rmm_spec.specs.Flat.{flat_state}
use Rattle.rmm_spec.specs.Shape as shape
use Rattle.rmm_laws.specs.Whole.{Whole, IsShaped}
use Rattle.rtt_table.specs.Plain.{cells_from}
use Rattle.granule_cells.specs.declared.cpu_place.CpuPlace.{CpuPlace}
use Rattle.granule_cells.specs.declared.cpu_place.CpuPlace.TheVariants.{Outside}
use Rattle.granule_cells.specs.Seen.{place_of}
use Rattle.granule_cells.specs.Sides.{side_of}
use Rattle.spec_machine.specs.GranulePlace.{place_in}
use Rattle.spec_machine.specs.declared.cell_list.CellList.{CellList}
use Rattle.spec_machine.specs.declared.granules.Granules.{Granules}
use Rattle.spec_machine.specs.declared.places.Places.{Places}

-- what stands at a place, where there is one
abbrev pub placed_at : List spec.Cell → Option ℕ → spec.Cell
placed_at items None = spec.Undelegated
placed_at items (Some place) = slice_index_or items place spec.Undelegated

-- the cell of each address, where the granule of a number has its place; one without a place is the host's
abbrev pub cells_in : ℕ → (ℕ → Option ℕ) → List spec.Cell → ℕ → spec.Cell
cells_in granules place items address = if is_granule granules address then placed_at items (place (address / 4096)) else spec.Undelegated

-- where each CPU is
abbrev pub places_in : List CpuPlace → ℕ → shape.CpuPlace
places_in items cpu = place_of (slice_index_or items cpu Outside)

unfoldable pub cells_of : CellList → ℕ → spec.Cell
cells_of list = cells_in list.config.granules (place_in list.places) list.cells.items

unfoldable pub places_of : Places → ℕ → shape.CpuPlace
places_of p = places_in p.places.items

abbrev pub config_of : Granules → Config
config_of g = g.list.config

-- how many granules there are
abbrev pub count_of : Granules → ℕ
count_of g = (config_of g).granules

abbrev pub whole_of : Granules → Whole
whole_of g = record { cells = cells_of g.list; side = side_of g.side; places = places_of g.places }

abbrev pub IsShapedIn : Granules → Type 0
IsShapedIn g = IsShaped (config_of g) (whole_of g)

unfoldable pub state_in : Granules → State
state_in g = flat_state (config_of g) (cells_of g.list)

-- the table in each granule
abbrev pub tables_at : Granules → ℕ → Option TableRecord
tables_at g = spec.tables_of (cells_of g.list)

-- the values of the first numbers
abbrev pub values_below : {A : Type 0} → ℕ → (ℕ → A) → List A
values_below zero f = []
values_below (suc n) f = values_below n f ++ f n ∷ []

-- the table in the granule of a number
abbrev pub table_numbered : CellList → ℕ → Option TableRecord
table_numbered list number = spec.table_in (placed_at list.cells.items (place_in list.places number))

-- the tables of the granules, each in its own
unfoldable pub tables_in : CellList → List TableCell
tables_in list = cells_from 0 (values_below list.config.granules (table_numbered list))
