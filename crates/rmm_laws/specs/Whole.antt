-- What each kind of change makes of a whole: of its cells, its side table and its CPUs' places, one granule at a time.
-- A cell is changed by what lies in it; a cell that isn't what the change means stays as it is.
-- The records' changes are those of the flat state; that a monitor keeps them so is this project's own.
use Rattle.std.specs.Prelude.{ℕ, ◌+◌, ◌-◌, ◌*◌, ◌/◌, ◌%◌, List, ◌++◌, replicate, Option, Some, None, slice_set}
use Rattle.rmm_spec.specs.HistoryText.{Config}
use Rattle.rmm_spec.specs.declared.change.Change.{Change}
use Rattle.rmm_spec.specs.declared.change.Change.TheVariants.{Unchanged, Retagged, RealmMade, RealmDestroyed, RecMade, RecDestroyed, RecordsChanged, TableMade, TableDestroyed, EntriesChanged}
use Rattle.rmm_spec.specs.declared.change.EntryChange.{EntryChange}
use Rattle.rmm_spec.specs.declared.change.EntryChange.TheVariants.{Replaced, RipasSet}
use Rattle.rmm_spec.specs.declared.change.RealmChange.{RealmChange}
use Rattle.rmm_spec.specs.declared.change.RealmUpdate.{RealmUpdate}
use Rattle.rmm_spec.specs.declared.change.RealmUpdate.TheVariants.{RecCounted}
use Rattle.rmm_spec.specs.declared.change.RecChange.{RecChange}
use Rattle.rmm_spec.specs.declared.change.RecUpdate.{RecUpdate}
use Rattle.rmm_spec.specs.declared.change.RecUpdate.TheVariants as rec_update
use Rattle.rmm_spec.specs.declared.change.TagChange.{TagChange}
use Rattle.rmm_spec.specs.declared.entry.Entry.{Entry}
use Rattle.rmm_spec.specs.declared.entry.Entry.TheVariants as entry_kind
use Rattle.rmm_spec.specs.declared.tag.Ripas.TheVariants.{Empty}
use Rattle.rmm_spec.specs.declared.tag.Tag.{Tag}
use Rattle.rmm_spec.specs.declared.tag.Tag.TheVariants as tag
use Rattle.rmm_spec.specs.Walk.{table_size}
use Rattle.rmm_spec.specs.Table.{TableRecord, entries_with_ripas}
use Rattle.rmm_spec.specs.Change.{new_realm, new_rec, realm_updated, rec_updated}
use Rattle.rmm_spec.specs.Cell.{Cell, Undelegated, Delegated, Rd, Rec, RecAux, Data, Rtt, put, tables_of}
use Rattle.rmm_spec.specs.Flat.{table_granule}
use Rattle.rmm_spec.specs.Shape.{Side, CpuPlace, Outside, Inside, IsWellShaped}

-- all cells, with what is kept beside them
pub record Whole : Type 0 where
  pub cells : ℕ → Cell
  pub side : Side
  pub places : ℕ → CpuPlace

abbrev pub IsShaped : Config → Whole → Type 0
IsShaped config w = IsWellShaped config w.side w.places w.cells

-- ---- one cell

-- a granule that holds nothing gets another tag
abbrev pub cell_with_tag : Tag → Cell → Cell
cell_with_tag tag.Undelegated cell = Undelegated
cell_with_tag tag.Delegated cell = Delegated
cell_with_tag tag.RecAux cell = RecAux
cell_with_tag tag.Data cell = Data
cell_with_tag _ cell = cell

abbrev pub cell_with_realm : RealmUpdate → Cell → Cell
cell_with_realm update (Rd realm) = Rd (realm_updated update realm)
cell_with_realm update cell = cell

abbrev pub cell_with_rec : RecUpdate → Cell → Cell
cell_with_rec update (Rec rec) = Rec (rec_updated update rec)
cell_with_rec update cell = cell

abbrev pub cell_with_entries : (List Entry → List Entry) → Cell → Cell
cell_with_entries change (Rtt table) = Rtt (record table { entries = change table.entries })
cell_with_entries change cell = cell

-- the cell of one granule is changed
abbrev pub changed_at : (ℕ → Cell) → ℕ → (Cell → Cell) → ℕ → Cell
changed_at cells granule change = put cells granule (change (cells granule))

-- ---- tables

-- a new realm's root: nothing was said of its lower half, and its upper half is the host's
abbrev pub root_table : ℕ → ℕ → ℕ → TableRecord
root_table rd width level = record {
  place = record { rd = rd; level = level; base = 0; width = width };
  entries = replicate 256 (entry_kind.Unassigned Empty) ++ replicate 256 entry_kind.UnassignedNs;
}

-- the width of the address space that a table is of
abbrev pub width_in : Cell → ℕ
width_in (Rtt table) = table.place.width
width_in cell = 0

-- a new table of the number at the level, each entry a copy of the one that it stands for
abbrev pub copied_table : ℕ → ℕ → ℕ → ℕ → Entry → TableRecord
copied_table rd level number width entry = record {
  place = record { rd = rd; level = level; base = number * table_size level; width = width };
  entries = replicate 512 entry;
}

-- the table in that granule, where there is one, has its entries changed
abbrev pub cells_with_entries : (ℕ → Cell) → (List Entry → List Entry) → Option ℕ → ℕ → Cell
cells_with_entries cells change None = cells
cells_with_entries cells change (Some granule) = changed_at cells granule (cell_with_entries change)

-- a new table is put in, of the width of the table above, which links to it
abbrev pub cells_with_table : (ℕ → Cell) → ℕ → ℕ → ℕ → ℕ → Entry → Option ℕ → ℕ → Cell
cells_with_table cells rd level number rtt entry None = cells
cells_with_table cells rd level number rtt entry (Some above) =
    put (changed_at cells above (cell_with_entries (λ entries. slice_set entries (number % 512) (entry_kind.Table rtt))))
    rtt (Rtt (copied_table rd level number (width_in (cells above)) entry))

-- the number of the table whose entries are changed
abbrev pub table_changed : EntryChange → ℕ
table_changed (Replaced number entry) = number / 512
table_changed (RipasSet first last ripas) = first / 512

-- what becomes of that table's entries
abbrev pub entries_changed : EntryChange → List Entry → List Entry
entries_changed (Replaced number entry) entries = slice_set entries (number % 512) entry
entries_changed (RipasSet first last ripas) entries = entries_with_ripas (first % 512) (last - first / 512 * 512) ripas entries

-- ---- cells

abbrev pub cells_with_tag_change : (ℕ → Cell) → Option TagChange → ℕ → Cell
cells_with_tag_change cells None = cells
cells_with_tag_change cells (Some change) = changed_at cells change.granule (cell_with_tag change.tag)

abbrev pub cells_with_realm_change : (ℕ → Cell) → Option RealmChange → ℕ → Cell
cells_with_realm_change cells None = cells
cells_with_realm_change cells (Some change) = changed_at cells change.rd (cell_with_realm change.update)

abbrev pub cells_with_rec_change : (ℕ → Cell) → Option RecChange → ℕ → Cell
cells_with_rec_change cells None = cells
cells_with_rec_change cells (Some change) = changed_at cells change.rec (cell_with_rec change.update)

unfoldable pub cells_changed : Config → (ℕ → Cell) → Change → ℕ → Cell
cells_changed config cells Unchanged = cells
cells_changed config cells (Retagged change) = cells_with_tag_change cells (Some change)
cells_changed config cells (RealmMade rd root width level vmid algo) =
    put (put cells rd (Rd (new_realm root width level vmid algo))) root (Rtt (root_table rd width level))
cells_changed config cells (RealmDestroyed rd root) = put (put cells rd Delegated) root Delegated
cells_changed config cells (RecMade rd rec mpidr flags aux0 aux1) =
    changed_at (put (put (put cells rec (Rec (new_rec rd mpidr flags aux0 aux1))) aux0 RecAux) aux1 RecAux) rd
    (cell_with_realm (RecCounted mpidr flags))
cells_changed config cells (RecDestroyed rec aux0 aux1) = put (put (put cells rec Delegated) aux0 Delegated) aux1 Delegated
cells_changed config cells (RecordsChanged realm rec) = cells_with_rec_change (cells_with_realm_change cells realm) rec
cells_changed config cells (TableMade rd level number rtt entry) =
    cells_with_table cells rd level number rtt entry (table_granule config.granules (tables_of cells) rd (level - 1) (number / 512))
cells_changed config cells (TableDestroyed rd level number rtt entry) =
    put (cells_with_entries cells (λ entries. slice_set entries (number % 512) entry)
    (table_granule config.granules (tables_of cells) rd (level - 1) (number / 512))) rtt Delegated
cells_changed config cells (EntriesChanged rd level entries page realm rec) =
    cells_with_entries (cells_with_rec_change (cells_with_realm_change (cells_with_tag_change cells page) realm) rec)
    (entries_changed entries) (table_granule config.granules (tables_of cells) rd level (table_changed entries))

-- ---- what is kept beside the cells

-- the VMID of the realm that is there is free
abbrev pub side_without_vmid : Side → Cell → Side
side_without_vmid side (Rd realm) = record side { vmids = put side.vmids realm.vmid None }
side_without_vmid side cell = side

-- the realm of the REC that is there has one REC less
abbrev pub side_without_rec : Side → Cell → Side
side_without_rec side (Rec rec) = record side { rec_counts = put side.rec_counts rec.owner (side.rec_counts rec.owner - 1) }
side_without_rec side cell = side

unfoldable pub side_changed : (ℕ → Cell) → Side → Change → Side
side_changed cells side (RealmMade rd root width level vmid algo) = record side { vmids = put side.vmids vmid (Some rd) }
side_changed cells side (RealmDestroyed rd root) = side_without_vmid side (cells rd)
side_changed cells side (RecMade rd rec mpidr flags aux0 aux1) =
    record side { rec_counts = put side.rec_counts rd (side.rec_counts rd + 1) }
side_changed cells side (RecDestroyed rec aux0 aux1) = side_without_rec side (cells rec)
side_changed cells side _ = side

-- a CPU that was inside is outside
abbrev pub places_left : (ℕ → CpuPlace) → Option ℕ → ℕ → CpuPlace
places_left places None = places
places_left places (Some cpu) = put places cpu Outside

-- a REC is entered on a CPU, or left on the one that it runs on
abbrev pub places_of_rec : (ℕ → CpuPlace) → ℕ → RecUpdate → Cell → ℕ → CpuPlace
places_of_rec places address (rec_update.Entered cpu) (Rec rec) = put places cpu (Inside address rec.owner)
places_of_rec places address rec_update.Exited (Rec rec) = places_left places rec.cpu
places_of_rec places address update cell = places

abbrev pub places_with_rec_change : (ℕ → Cell) → (ℕ → CpuPlace) → Option RecChange → ℕ → CpuPlace
places_with_rec_change cells places None = places
places_with_rec_change cells places (Some change) = places_of_rec places change.rec change.update (cells change.rec)

unfoldable pub places_changed : (ℕ → Cell) → (ℕ → CpuPlace) → Change → ℕ → CpuPlace
places_changed cells places (RecordsChanged realm rec) = places_with_rec_change cells places rec
places_changed cells places (EntriesChanged rd level entries page realm rec) = places_with_rec_change cells places rec
places_changed cells places change = places

-- ---- wholes

abbrev pub whole_changed : Config → Whole → Change → Whole
whole_changed config w change = record {
  cells = cells_changed config w.cells change;
  side = side_changed w.cells w.side change;
  places = places_changed w.cells w.places change;
}
