-- Tables that are looked up among those held, by their place, and tables that stand below a place where none is held.
use Rattle.std.specs.Prelude.{◌≡◌, ℕ, ◌+◌, ◌/◌, Bool, false, ◌&&◌, nat_lt, List, length, Option, Some, None}
use Rattle.std.specs.List.{list_any}
use Rattle.rmm_spec.specs.Table.{TableRecord, place_number}
use Rattle.rmm_spec.specs.Update.{is_same_entry}
use Rattle.rmm_spec.specs.Local.{HeldCell, granules_held}
use Rattle.world_laws.specs.SeenState.{table_held, table_placed}

-- the table of that number at the level, in the granule where it is held
pub record StandsIn (held : List HeldCell) (rd level number : ℕ) (table : TableRecord) : Type 0 where
  pub granule : ℕ
  pub is_found : table_placed held rd level number ≡ Some granule
  pub is_held : table_held held granule ≡ Some table
  pub is_whole : length table.entries ≡ 512

-- the held table of that number at the level, or none where none is held
abbrev pub IsHeldTable : List HeldCell → ℕ → ℕ → ℕ → Option TableRecord → Type 0
IsHeldTable held rd level number None = table_placed held rd level number ≡ None
IsHeldTable held rd level number (Some table) = StandsIn held rd level number table

-- whether there is a table, and it is one of that level under the table of that number above it
abbrev pub is_under : ℕ → ℕ → ℕ → Option TableRecord → Bool
is_under rd level number None = false
is_under rd level number (Some table) = is_same_entry rd level number table.place.rd table.place.level (place_number table.place / 512)

-- whether a held table is one level below that of the number, and under it
unfoldable pub is_above_held : List HeldCell → ℕ → ℕ → ℕ → Bool
is_above_held held rd level number =
    nat_lt level 3 && list_any (λ granule. is_under rd (level + 1) number (table_held held granule)) (granules_held held)
