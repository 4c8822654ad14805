-- The flat state that a whole of cells stands for: tags, realms and RECs as they lie in their granules, and each table taken
-- at its own place. So the machine's definitions say of cells what they say of its state. This project's own.
use Rattle.std.specs.Prelude.{ℕ, zero, suc, ◌*◌, ◌/◌, ◌%◌, Bool, false, if◌then◌else◌, Option, Some, None, option_map, slice_get}
use Rattle.std.specs.Option.{option_and_then}
use Rattle.rmm_spec.specs.HistoryText.{Config}
use Rattle.rmm_spec.specs.declared.entry.Entry.{Entry}
use Rattle.rmm_spec.specs.State.{State}
use Rattle.rmm_spec.specs.Update.{is_same_entry}
use Rattle.rmm_spec.specs.Table.{TableRecord, place_number}
use Rattle.rmm_spec.specs.TableCells.{leaf_of}
use Rattle.rmm_spec.specs.Cell.{Cell, tags_of, realms_of, recs_of, tables_of}

-- the greatest number below n that passes, where one does
abbrev pub found_below : ℕ → (ℕ → Bool) → Option ℕ
found_below zero passes = None
found_below (suc n) passes = if passes n then Some n else found_below n passes

-- whether there is a table, and it is that of the realm, level and number
abbrev pub is_table_of : ℕ → ℕ → ℕ → Option TableRecord → Bool
is_table_of rd level number None = false
is_table_of rd level number (Some table) = is_same_entry rd level number table.place.rd table.place.level (place_number table.place)

-- the granule of the table of the realm, level and number, looked for in all granules
unfoldable pub table_granule : ℕ → (ℕ → Option TableRecord) → ℕ → ℕ → ℕ → Option ℕ
table_granule granules tables rd level number =
    option_map (λ k. k * 4096) (found_below granules (λ k. is_table_of rd level number (tables (k * 4096))))

-- the leaf of that number, in the table of which it is an entry
unfoldable pub leaf_in_tables : ℕ → (ℕ → Option TableRecord) → ℕ → ℕ → ℕ → Option Entry
leaf_in_tables granules tables rd level number =
    option_and_then
    (λ granule. option_and_then (λ (table : TableRecord). option_and_then leaf_of (slice_get table.entries (number % 512))) (tables granule))
    (table_granule granules tables rd level (number / 512))

unfoldable pub flat_state : Config → (ℕ → Cell) → State
flat_state config cells = record {
  config = config;
  tag = tags_of cells;
  realm = realms_of cells;
  rec = recs_of cells;
  table = table_granule config.granules (tables_of cells);
  leaf = leaf_in_tables config.granules (tables_of cells);
}
