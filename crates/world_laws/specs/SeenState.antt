-- What the cells that are held tell of the flat state. An address of which no cell is held, or that is no granule, is undelegated
-- and has nothing; but a table that is held tells that its realm stands, and how wide its address space is. A table that is held
-- tells all its entries; where the table above isn't held, a held one tells its own place. This project's own.
use Rattle.std.specs.Prelude.{ℕ, ◌-◌, ◌/◌, ◌%◌, Bool, false, ◌==◌, if◌then◌else◌, List, Option, Some, None, is_some, slice_get}
use Rattle.std.specs.List.{fold}
use Rattle.std.specs.Option.{option_and_then}
use Rattle.rmm_spec.specs.HistoryText.{Config}
use Rattle.rmm_spec.specs.declared.entry.Entry.{Entry}
use Rattle.rmm_spec.specs.declared.entry.Entry.TheVariants.{Table}
use Rattle.rmm_spec.specs.State.{State, RealmRecord}
use Rattle.rmm_spec.specs.Lookup.{is_granule}
use Rattle.rmm_spec.specs.Change.{new_realm}
use Rattle.rmm_spec.specs.Step.Terms.{is_space}
use Rattle.rmm_spec.specs.Table.{TableRecord}
use Rattle.rmm_spec.specs.TableCells.{leaf_of}
use Rattle.rmm_spec.specs.Cell.{Cell, Undelegated, Rd, tags_of, realms_of, recs_of, table_in}
use Rattle.rmm_spec.specs.Flat.{is_table_of}
use Rattle.rmm_spec.specs.Local.{HeldCell, granules_held}
use Rattle.world_laws.specs.Held.{cell_in}

-- ---- searches

-- the table that is held in a granule
abbrev pub table_held : List HeldCell → ℕ → Option TableRecord
table_held held granule = option_and_then table_in (cell_in granule held)

-- the granule that was found, or else this one, where it passes
abbrev pub found_or : (ℕ → Bool) → Option ℕ → ℕ → Option ℕ
found_or passes found granule = if is_some found then found else (if passes granule then Some granule else None)

-- the first granule that is held and passes
abbrev pub first_held : (ℕ → Bool) → List HeldCell → Option ℕ
first_held passes held = fold (found_or passes) None (granules_held held)

-- ---- realms

abbrev pub is_of_realm : ℕ → Option TableRecord → Bool
is_of_realm rd None = false
is_of_realm rd (Some table) = table.place.rd == rd

-- the granule of the first held table of the realm
unfoldable pub table_behind : List HeldCell → ℕ → Option ℕ
table_behind held rd = first_held (λ granule. is_of_realm rd (table_held held granule)) held

-- the level from which an address space of that width is walked
abbrev pub start_of : ℕ → ℕ
start_of width = if width == 0x27 then 1 else 0

-- a realm of which only the address space is known
abbrev pub blank_realm : ℕ → RealmRecord
blank_realm width = new_realm 0 width (start_of width) 0 0

-- the one of that width, if realms can have it
abbrev pub realm_of_width : ℕ → Option RealmRecord
realm_of_width width = if is_space width (start_of width) then Some (blank_realm width) else None

-- the realm that a held table is of
unfoldable pub realm_behind : List HeldCell → ℕ → Option RealmRecord
realm_behind held rd =
    option_and_then (λ (table : TableRecord). realm_of_width table.place.width) (option_and_then (table_held held) (table_behind held rd))

-- ---- records

-- the cell that is held, or else that of the realm that is behind a held table
abbrev pub cell_or : Option Cell → Option RealmRecord → Cell
cell_or (Some cell) behind = cell
cell_or None (Some realm) = Rd realm
cell_or None None = Undelegated

-- what lies at an address
abbrev pub cell_seen : Config → List HeldCell → ℕ → Cell
cell_seen config held address = if is_granule config.granules address then cell_or (cell_in address held) (realm_behind held address) else Undelegated

-- ---- tables

-- the granule of the first held table of that place
unfoldable pub table_placed : List HeldCell → ℕ → ℕ → ℕ → Option ℕ
table_placed held rd level number = first_held (λ granule. is_table_of rd level number (table_held held granule)) held

-- the entry at that place of a table
abbrev pub entry_in : ℕ → Option TableRecord → Option Entry
entry_in place None = None
entry_in place (Some table) = slice_get table.entries place

-- the entry of that number, where its table is held
unfoldable pub entry_held : List HeldCell → ℕ → ℕ → ℕ → Option Entry
entry_held held rd level number =
    option_and_then (λ granule. entry_in (number % 512) (table_held held granule)) (table_placed held rd level (number / 512))

abbrev pub link_of : Entry → Option ℕ
link_of (Table granule) = Some granule
link_of _ = None

-- what the entry above links to; a table's own place tells where that isn't held
abbrev pub linked_or : Option Entry → Option ℕ → Option ℕ
linked_or None placed = placed
linked_or (Some entry) placed = link_of entry

unfoldable pub table_seen : List HeldCell → ℕ → ℕ → ℕ → Option ℕ
table_seen held rd level number =
    if level == 0 then table_placed held rd level number
    else linked_or (entry_held held rd (level - 1) number) (table_placed held rd level number)

unfoldable pub leaf_seen : List HeldCell → ℕ → ℕ → ℕ → Option Entry
leaf_seen held rd level number = option_and_then leaf_of (entry_held held rd level number)

-- ---- all

unfoldable pub seen_state : Config → List HeldCell → State
seen_state config held = record {
  config = config;
  tag = tags_of (cell_seen config held);
  realm = realms_of (cell_seen config held);
  rec = recs_of (cell_seen config held);
  table = table_seen held;
  leaf = leaf_seen held;
}
