-- One cell that is read, or changed by what lies in it.
use Rattle.spec_machine.proofs.Common.{◌≡◌, CellList, HeldCells, RealmRecord, Some, ap, cells_of, none-some, place_in, same_Some, sym, ℕ}
use Rattle.rmm_spec.specs.State.{RecRecord}
use Rattle.rmm_spec.specs.Cell as spec
use Rattle.rmm_laws.specs.Whole.{changed_at}
use Rattle.spec_machine.specs.Held.{cell_at, changed_in}
use Rattle.spec_machine.specs.Placed.{IsPlace}
use Rattle.spec_machine.specs.Whole.{cells_in}
use Rattle.spec_machine.proofs.Kept.{cell-read, cells_in-changed}

-- what has a realm's record is its descriptor, and what has a REC's is that REC
pub realm_cell : (c : spec.Cell) (r : RealmRecord) → Some r ≡ spec.realm_in c → c ≡ spec.Rd r
realm_cell (spec.Rd other) r is = ap spec.Rd (sym (same_Some r other is))
realm_cell _ r is = absurd (none-some r (sym is))

pub rec_cell : (c : spec.Cell) (r : RecRecord) → Some r ≡ spec.rec_in c → c ≡ spec.Rec r
rec_cell (spec.Rec other) r is = ap spec.Rec (sym (same_Some r other is))
rec_cell _ r is = absurd (none-some r (sym is))

-- the cell at a granule's place is what is kept of the granule
pub place-cell : (list : CellList) (granule place : ℕ) → IsPlace list granule place → cell_at list.cells place ≡ cells_of list granule
unfolding cells_of
place-cell list granule place is = cell-read list.config.granules list.places list.cells.items granule place is.granule is.at

-- and where it is changed there, the granule's is
pub place-changed : (list : CellList) (granule place : ℕ) (new : HeldCells) (change : spec.Cell → spec.Cell) → IsPlace list granule place
    → new ≡ changed_in list.cells place change
    → cells_in list.config.granules (place_in list.places) new.items ≡ changed_at (cells_of list) granule change
unfolding cells_of
place-changed list granule place new change is changed =
    cells_in-changed list.config.granules list.places list.cells new granule place change is.granule is.at is.within changed
