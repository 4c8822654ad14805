-- Cells that no shaped whole has, where a walk meets them: what a held table's entry names is no granule, or is held as something
-- else than the entry says or at another place; or the root that a held realm names is. This project's own.
use Rattle.std.specs.Prelude.{ℕ, suc, ◌+◌, ◌*◌, Bool, true, false, not, ◌&&◌, ◌||◌, ◌==◌, List, Option, Some, None, slice_get}
use Rattle.std.specs.List.{list_any}
use Rattle.rmm_spec.specs.HistoryText.{Config}
use Rattle.rmm_spec.specs.declared.entry.Entry.{Entry}
use Rattle.rmm_spec.specs.declared.entry.Entry.TheVariants.{Assigned, Table}
use Rattle.rmm_spec.specs.declared.place.Place.{Place}
use Rattle.rmm_spec.specs.Lookup.{is_granule}
use Rattle.rmm_spec.specs.Walk.{table_size}
use Rattle.rmm_spec.specs.Table.{TableRecord, entry_index, place_number}
use Rattle.rmm_spec.specs.Cell.{Cell, Rd, Rtt, is_data}
use Rattle.rmm_spec.specs.Local.{HeldCell, granules_held}
use Rattle.world_laws.specs.Held.{cell_in}
use Rattle.world_laws.specs.SeenState.{table_held}

-- ---- places

-- whether a place is that of a realm's table, by all that places have
abbrev pub is_place : ℕ → ℕ → ℕ → ℕ → Place → Bool
is_place rd level number width place =
    place.rd == rd && place.level == level && place.base == number * table_size level && place.width == width

-- whether what is held is something else than the table of that place
abbrev pub is_other_table : ℕ → ℕ → ℕ → ℕ → Option Cell → Bool
is_other_table rd level number width None = false
is_other_table rd level number width (Some (Rtt table)) = not (is_place rd level number width table.place)
is_other_table rd level number width (Some _) = true

abbrev pub is_other_page : Option Cell → Bool
is_other_page None = false
is_other_page (Some cell) = not (is_data cell)

-- ---- what tables and realms name

-- whether what an entry names can't be: no granule, or held as something else
abbrev pub is_misfit_part : Config → List HeldCell → TableRecord → ℕ → Option Entry → Bool
is_misfit_part config held t index (Some (Table child)) =
    not (is_granule config.granules child)
    || is_other_table t.place.rd (suc t.place.level) (512 * place_number t.place + index) t.place.width (cell_in child held)
is_misfit_part config held t index (Some (Assigned ripas page)) = not (is_granule config.granules page) || is_other_page (cell_in page held)
is_misfit_part config held t index _ = false

-- whether a held table's entry for the address names such
abbrev pub is_misfit_table : Config → List HeldCell → ℕ → Option TableRecord → Bool
is_misfit_table config held ipa None = false
is_misfit_table config held ipa (Some t) =
    is_misfit_part config held t (entry_index t.place.level ipa) (slice_get t.entries (entry_index t.place.level ipa))

abbrev pub is_misfit_root : Config → List HeldCell → ℕ → Option Cell → Bool
is_misfit_root config held rd (Some (Rd realm)) =
    not (is_granule config.granules realm.root) || is_other_table rd realm.start_level 0 realm.width (cell_in realm.root held)
is_misfit_root config held rd _ = false

-- whether a walk in the tables of the realm for the address meets such among the cells that are held
unfoldable pub is_misfit_walk : Config → List HeldCell → ℕ → ℕ → Bool
is_misfit_walk config held rd ipa =
    is_misfit_root config held rd (cell_in rd held)
    || list_any (λ granule. is_misfit_table config held ipa (table_held held granule)) (granules_held held)
