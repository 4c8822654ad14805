-- One cell: what is seen of it, what a change makes of it, and which changes it takes.
use Rattle.std.specs.Prelude.{◌≡◌, ◌+◌, ◌*◌, ◌/◌, Bool, true, ◌&&◌, ◌==◌, nat_lt, nat_le, IsTrue, Some}
use Rattle.rmm_spec.specs.declared.change.EntryChange.{EntryChange}
use Rattle.rmm_spec.specs.declared.change.EntryChange.TheVariants.{Replaced, RipasSet}
use Rattle.rmm_spec.specs.declared.change.RealmUpdate.TheVariants.{RecCounted}
use Rattle.rmm_spec.specs.Applicable.{IsRealmUpdate}
use Rattle.rmm_spec.specs.Cell as whole
use Rattle.rmm_spec.specs.State.{RealmRecord, RecRecord}
use Rattle.realm_desc.specs.Updates.{IsRecUpdate}
use Rattle.rmm_laws.specs.Whole.{cell_with_entries, cell_with_realm, cell_with_rec, entries_changed}
use Rattle.granule_cells.specs.declared.cell_change.CellChange.{CellChange}
use Rattle.granule_cells.specs.declared.cell_change.CellChange.TheVariants.{Realm, Rec, Entries}
use Rattle.granule_cells.specs.declared.cell_view.CellView.{CellView}
use Rattle.granule_cells.specs.declared.cell_view.CellView.TheVariants as view

-- the cell that is shown
abbrev pub cell_seen : CellView → whole.Cell
cell_seen view.Undelegated = whole.Undelegated
cell_seen view.Delegated = whole.Delegated
cell_seen (view.Rd realm) = whole.Rd realm.now
cell_seen (view.Rec rec) = whole.Rec rec.now
cell_seen view.RecAux = whole.RecAux
cell_seen view.Data = whole.Data
cell_seen (view.Rtt table) = whole.Rtt table.now

-- what a change makes of a cell
abbrev pub cell_changed : CellChange → whole.Cell → whole.Cell
cell_changed (Realm update) = cell_with_realm update
cell_changed (Rec update) = cell_with_rec update
cell_changed (Entries change) = cell_with_entries (entries_changed change)

-- the entries of a stretch are those of one table
abbrev pub fits_entries : EntryChange → Bool
fits_entries (Replaced number entry) = true
fits_entries (RipasSet first last ripas) = nat_lt first last && nat_le last ((first / 512 + 1) * 512)

-- a cell takes a change: a REC that is counted is the next one of the realm that is there, and a REC that is there takes its update
abbrev pub FitsCell : whole.Cell → CellChange → Type 0
FitsCell cell (Realm (RecCounted index flags)) =
    (realm : RealmRecord) → whole.realm_in cell ≡ Some realm → IsTrue (index == realm.next_index && nat_lt index 8)
FitsCell cell (Realm update) = IsRealmUpdate update
FitsCell cell (Rec update) = (rec : RecRecord) → whole.rec_in cell ≡ Some rec → IsRecUpdate rec update
FitsCell cell (Entries change) = IsTrue (fits_entries change)
