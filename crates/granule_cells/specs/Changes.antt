-- What a change makes of cells where the table whose entries it changes was found, and what it requires of them.
use Rattle.std.specs.Prelude.{◌≡◌, ℕ, ◌-◌, ◌/◌, ◌%◌, Bool, true, false, ◌&&◌, ◌==◌, IsTrue, List, [], ◌∷◌, ◌++◌, Option, Some, None, IfSome, slice_set}
use Rattle.std.specs.List.{AllByRecursion}
use Rattle.rmm_spec.specs.declared.change.Change.{Change}
use Rattle.rmm_spec.specs.declared.change.Change.TheVariants.{Unchanged, Retagged, RealmMade, RealmDestroyed, RecMade, RecDestroyed, RecordsChanged, TableMade, TableDestroyed, EntriesChanged}
use Rattle.rmm_spec.specs.declared.change.RealmChange.{RealmChange}
use Rattle.rmm_spec.specs.declared.change.RealmUpdate.TheVariants.{RecCounted}
use Rattle.rmm_spec.specs.declared.change.RecChange.{RecChange}
use Rattle.rmm_spec.specs.declared.change.TagChange.{TagChange}
use Rattle.rmm_spec.specs.declared.tag.Tag.{Tag}
use Rattle.rmm_spec.specs.declared.tag.Tag.TheVariants as tag
use Rattle.rmm_spec.specs.Applicable.{IsRealmUpdate}
use Rattle.rmm_spec.specs.Cell.{Cell, Delegated, Rd, Rec, RecAux, Rtt, put}
use Rattle.rmm_spec.specs.Change.{new_realm, new_rec}
use Rattle.rmm_spec.specs.Lookup.{is_hash}
use Rattle.rmm_spec.specs.Step.Terms.{is_space}
use Rattle.rtt_table.specs.Shaped.{IsShaped}
use Rattle.rmm_laws.specs.Whole.{changed_at, cell_with_realm, copied_table, root_table, width_in, table_changed, entries_changed, cells_with_entries, cells_with_table, cells_with_tag_change, cells_with_realm_change, cells_with_rec_change}
use Rattle.granule_cells.specs.declared.cell_change.CellChange.TheVariants as cell
use Rattle.granule_cells.specs.OneCell.{FitsCell}
pub use Rattle.granule_cells.specs.OneCell.{fits_entries}

-- ---- what becomes of cells

-- the granule of the table whose entries are changed, by who finds a realm's table of a level and number
abbrev pub table_found : (ℕ → ℕ → ℕ → Option ℕ) → Change → Option ℕ
table_found find (TableMade rd level number rtt entry) = find rd (level - 1) (number / 512)
table_found find (TableDestroyed rd level number rtt entry) = find rd (level - 1) (number / 512)
table_found find (EntriesChanged rd level entries page realm rec) = find rd level (table_changed entries)
table_found find _ = None

-- the change that laws speak of, where that table lies at an address
unfoldable pub cells_made : (ℕ → Cell) → Option ℕ → Change → ℕ → Cell
cells_made cells at Unchanged = cells
cells_made cells at (Retagged change) = cells_with_tag_change cells (Some change)
cells_made cells at (RealmMade rd root width level vmid algo) =
    put (put cells rd (Rd (new_realm root width level vmid algo))) root (Rtt (root_table rd width level))
cells_made cells at (RealmDestroyed rd root) = put (put cells rd Delegated) root Delegated
cells_made cells at (RecMade rd rec mpidr flags aux0 aux1) =
    changed_at (put (put (put cells rec (Rec (new_rec rd mpidr flags aux0 aux1))) aux0 RecAux) aux1 RecAux) rd
    (cell_with_realm (RecCounted mpidr flags))
cells_made cells at (RecDestroyed rec aux0 aux1) = put (put (put cells rec Delegated) aux0 Delegated) aux1 Delegated
cells_made cells at (RecordsChanged realm rec) = cells_with_rec_change (cells_with_realm_change cells realm) rec
cells_made cells at (TableMade rd level number rtt entry) = cells_with_table cells rd level number rtt entry at
cells_made cells at (TableDestroyed rd level number rtt entry) =
    put (cells_with_entries cells (λ entries. slice_set entries (number % 512) entry) at) rtt Delegated
cells_made cells at (EntriesChanged rd level entries page realm rec) =
    cells_with_entries (cells_with_rec_change (cells_with_realm_change (cells_with_tag_change cells page) realm) rec) (entries_changed entries) at

-- ---- which granules are changed

abbrev pub page_put : Option TagChange → List ℕ
page_put None = []
page_put (Some change) = change.granule ∷ []

abbrev pub realm_changed : Option RealmChange → List ℕ
realm_changed None = []
realm_changed (Some change) = change.rd ∷ []

abbrev pub rec_changed : Option RecChange → List ℕ
rec_changed None = []
rec_changed (Some change) = change.rec ∷ []

abbrev pub table_at : Option ℕ → List ℕ
table_at None = []
table_at (Some granule) = granule ∷ []

-- no cell but theirs is changed, or looked at
abbrev pub granules_changed : Option ℕ → Change → List ℕ
granules_changed at Unchanged = []
granules_changed at (Retagged change) = change.granule ∷ []
granules_changed at (RealmMade rd root width level vmid algo) = rd ∷ root ∷ []
granules_changed at (RealmDestroyed rd root) = rd ∷ root ∷ []
granules_changed at (RecMade rd rec mpidr flags aux0 aux1) = rec ∷ aux0 ∷ aux1 ∷ rd ∷ []
granules_changed at (RecDestroyed rec aux0 aux1) = rec ∷ aux0 ∷ aux1 ∷ []
granules_changed at (RecordsChanged realm rec) = realm_changed realm ++ rec_changed rec
granules_changed at (TableMade rd level number rtt entry) = table_at at ++ rtt ∷ []
granules_changed at (TableDestroyed rd level number rtt entry) = table_at at ++ rtt ∷ []
granules_changed at (EntriesChanged rd level entries page realm rec) =
    page_put page ++ (realm_changed realm ++ (rec_changed rec ++ table_at at))

-- ---- what is required

-- a granule that holds nothing
abbrev pub is_plain : Tag → Bool
is_plain tag.Rd = false
is_plain tag.Rec = false
is_plain tag.Rtt = false
is_plain _ = true

-- the REC that is there takes the update
abbrev pub CanUpdate : (ℕ → Cell) → RecChange → Type 0
CanUpdate cells change = FitsCell (cells change.rec) (cell.Rec change.update)

-- a page's tag, a realm and a REC that go with changed entries
pub record FitParts (cells : ℕ → Cell) (page : Option TagChange) (realm : Option RealmChange) (rec : Option RecChange) : Type 0 where
  pub plain : IfSome page (λ c. IsTrue (is_plain c.tag))
  pub of_realm : IfSome realm (λ c. IsRealmUpdate c.update)
  pub of_rec : IfSome rec (CanUpdate cells)

-- a change fits the cells that it finds, where the table whose entries it changes lies at an address: a table that is made stands where
-- a realm's table can
abbrev pub FitsCells : (ℕ → Cell) → Option ℕ → Change → Type 0
FitsCells cells at (Retagged change) = IsTrue (is_plain change.tag)
FitsCells cells at (RealmMade rd root width level vmid algo) = IsTrue (is_space width level && is_hash algo)
FitsCells cells at (RecMade rd rec mpidr flags aux0 aux1) = FitsCell (cells rd) (cell.Realm (RecCounted mpidr flags)) × ((aux0 == aux1) ≡ false)
FitsCells cells at (RecordsChanged realm rec) = FitParts cells None realm rec
FitsCells cells at (TableMade rd level number rtt entry) =
    IfSome at (λ above. IsShaped (copied_table rd level number (width_in (cells above)) entry).place)
FitsCells cells at (EntriesChanged rd level entries page realm rec) = FitParts cells page realm rec × IsTrue (fits_entries entries)
FitsCells cells at _ = Unit {0}

-- the granules in which a change puts another cell
abbrev pub granules_put : Change → List ℕ
granules_put (Retagged change) = change.granule ∷ []
granules_put (RealmMade rd root width level vmid algo) = rd ∷ root ∷ []
granules_put (RealmDestroyed rd root) = rd ∷ root ∷ []
granules_put (RecMade rd rec mpidr flags aux0 aux1) = rec ∷ aux0 ∷ aux1 ∷ []
granules_put (RecDestroyed rec aux0 aux1) = rec ∷ aux0 ∷ aux1 ∷ []
granules_put (TableMade rd level number rtt entry) = rtt ∷ []
granules_put (TableDestroyed rd level number rtt entry) = rtt ∷ []
granules_put (EntriesChanged rd level entries page realm rec) = page_put page
granules_put _ = []

-- each of them is one that can be put in
abbrev pub CanPutAll : (ℕ → Bool) → Change → Type 0
CanPutAll has change = AllByRecursion (λ g. IsTrue (has g)) (granules_put change)
