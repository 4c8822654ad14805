-- Where the cell of a granule stands.
use Rattle.std.specs.Prelude.{◌≡◌, ℕ, ◌/◌, ◌<◌, length, Some, IsTrue}
use Rattle.rmm_spec.specs.Lookup.{is_granule}
use Rattle.spec_machine.specs.GranulePlace.{place_in}
use Rattle.spec_machine.specs.declared.cell_list.CellList.{CellList}

-- the granule at the address has its cell at the place
pub record IsPlace (list : CellList) (address place : ℕ) : Type 0 where
  pub granule : IsTrue (is_granule list.config.granules address)
  pub at : place_in list.places (address / 4096) ≡ Some place
  pub within : place < length list.cells.items
