-- What is kept of each granule, as maps from addresses.
use Rattle.std.specs.Prelude.{ℕ, ◌/◌, ◌%◌, ◌==◌, if◌then◌else◌, List, Option, None, slice_index_or}
use Rattle.rmm_spec.specs.Cell as whole
use Rattle.command_core.specs.Seen.{cell_of}
use Rattle.granule_cells.specs.declared.cell.Cell.TheVariants.{Undelegated}
use Rattle.world.specs.declared.cells.Cells.{Cells}
use Rattle.world.specs.declared.locks.Locks.{Locks}

-- what a list with an item for each granule has for an address
abbrev pub item_at : {A : Type 0} → List A → A → ℕ → A
item_at items default address = if address % 4096 == 0 then slice_index_or items (address / 4096) default else default

unfoldable pub cells_of : Cells → ℕ → whole.Cell
cells_of cells = λ address. cell_of (item_at cells.list.items Undelegated address)

unfoldable pub holder_of : Locks → ℕ → Option ℕ
holder_of locks = λ address. item_at locks.holders.items None address
