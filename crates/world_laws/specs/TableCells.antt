-- What a change of a realm's tables makes of the cells that are held: the cells that it puts in, each in the place of the one that
-- is held at its granule. It is what the same change makes of a whole. This project's own.
use Rattle.std.specs.Prelude.{ℕ, ◌-◌, ◌/◌, ◌%◌, Bool, true, false, ◌&&◌, List, [], ◌∷◌, ◌++◌, Option, Some, None, is_some, slice_set}
use Rattle.rmm_spec.specs.declared.change.Change.{Change}
use Rattle.rmm_spec.specs.declared.change.Change.TheVariants.{Unchanged, TableMade, TableDestroyed, EntriesChanged}
use Rattle.rmm_spec.specs.declared.change.RealmChange.{RealmChange}
use Rattle.rmm_spec.specs.declared.change.RecChange.{RecChange}
use Rattle.rmm_spec.specs.declared.change.RecUpdate.{RecUpdate}
use Rattle.rmm_spec.specs.declared.change.RecUpdate.TheVariants.{RequestMoved}
use Rattle.rmm_spec.specs.declared.change.TagChange.{TagChange}
use Rattle.rmm_spec.specs.declared.entry.Entry.{Entry}
use Rattle.rmm_spec.specs.declared.entry.Entry.TheVariants as entry_kind
use Rattle.rmm_spec.specs.Cell.{Delegated, Rtt}
use Rattle.rmm_spec.specs.Local.{HeldCell, Hold}
use Rattle.world_laws.specs.Replaced.{held_at, replaced_all}
use Rattle.rmm_laws.specs.Whole.{cell_with_tag, cell_with_realm, cell_with_rec, cell_with_entries, width_in, copied_table, table_changed, entries_changed}
use Rattle.world_laws.specs.Held.{is_held, known_cell}
use Rattle.world_laws.specs.SeenState.{table_placed}

-- ---- cells

abbrev pub tag_cells : List HeldCell → Option TagChange → List HeldCell
tag_cells held None = []
tag_cells held (Some change) = held_at change.granule (cell_with_tag change.tag (known_cell held change.granule)) ∷ []

abbrev pub realm_cells : List HeldCell → Option RealmChange → List HeldCell
realm_cells held None = []
realm_cells held (Some change) = held_at change.rd (cell_with_realm change.update (known_cell held change.rd)) ∷ []

abbrev pub rec_cells : List HeldCell → Option RecChange → List HeldCell
rec_cells held None = []
rec_cells held (Some change) = held_at change.rec (cell_with_rec change.update (known_cell held change.rec)) ∷ []

-- the table in that granule has its entries changed
abbrev pub entry_cells : List HeldCell → (List Entry → List Entry) → Option ℕ → List HeldCell
entry_cells held change None = []
entry_cells held change (Some granule) = held_at granule (cell_with_entries change (known_cell held granule)) ∷ []

-- a new table, of the width of the one above, which links to it
abbrev pub made_cells : List HeldCell → ℕ → ℕ → ℕ → ℕ → Entry → Option ℕ → List HeldCell
made_cells held rd level number rtt entry None = []
made_cells held rd level number rtt entry (Some above) =
    held_at above (cell_with_entries (λ entries. slice_set entries (number % 512) (entry_kind.Table rtt)) (known_cell held above))
    ∷ held_at rtt (Rtt (copied_table rd level number (width_in (known_cell held above)) entry)) ∷ []

unfoldable pub table_cells : List HeldCell → Change → List HeldCell
table_cells held (TableMade rd level number rtt entry) =
    made_cells held rd level number rtt entry (table_placed held rd (level - 1) (number / 512))
table_cells held (TableDestroyed rd level number rtt entry) =
    entry_cells held (λ entries. slice_set entries (number % 512) entry) (table_placed held rd (level - 1) (number / 512))
    ++ held_at rtt Delegated ∷ []
table_cells held (EntriesChanged rd level entries page realm rec) =
    tag_cells held page ++ (realm_cells held realm ++ (rec_cells held rec
    ++ entry_cells held (entries_changed entries) (table_placed held rd level (table_changed entries))))
table_cells held _ = []

-- what is held once the tables are changed: the side table and the CPU's place stay
abbrev pub tables_changed : Hold → Change → Hold
tables_changed hold change = record hold { cells = replaced_all hold.cells (table_cells hold.cells change) }

-- ---- what has to be held

abbrev pub holds_page : List HeldCell → Option TagChange → Bool
holds_page held None = true
holds_page held (Some change) = is_held change.granule held

abbrev pub holds_realm : List HeldCell → Option RealmChange → Bool
holds_realm held None = true
holds_realm held (Some change) = is_held change.rd held

-- a request is moved on: the REC neither enters nor leaves
abbrev pub is_moved : RecUpdate → Bool
is_moved (RequestMoved base) = true
is_moved _ = false

abbrev pub holds_rec : List HeldCell → Option RecChange → Bool
holds_rec held None = true
holds_rec held (Some change) = is_held change.rec held && is_moved change.update

-- whether what a command that walks changes is held: the table whose entries are changed, the one that is put in or taken out, and
-- the page, the realm and the REC that go with it
unfoldable pub holds_change : List HeldCell → Change → Bool
holds_change held Unchanged = true
holds_change held (TableMade rd level number rtt entry) = is_held rtt held && is_some (table_placed held rd (level - 1) (number / 512))
holds_change held (TableDestroyed rd level number rtt entry) = is_held rtt held && is_some (table_placed held rd (level - 1) (number / 512))
holds_change held (EntriesChanged rd level entries page realm rec) =
    holds_page held page && holds_realm held realm && holds_rec held rec && is_some (table_placed held rd level (table_changed entries))
holds_change held _ = false
