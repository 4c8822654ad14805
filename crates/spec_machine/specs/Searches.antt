-- Tables that are looked up by their place, and where a stretch may end.
use Rattle.std.specs.Prelude.{◌≡◌, ℕ, ◌+◌, ◌-◌, ◌*◌, Bool, false, ◌&&◌, ◌||◌, nat_lt, nat_le, Option, Some, None}
use Rattle.std.specs.List.{list_any}
use Rattle.rmm_spec.specs.declared.accepted.Stretch.{Stretch}
use Rattle.rmm_spec.specs.declared.accepted.StretchUse.{StretchUse}
use Rattle.rmm_spec.specs.declared.accepted.StretchUse.TheVariants.{Init, Requested}
use Rattle.rmm_spec.specs.declared.entry.Entry.TheVariants.{Unassigned}
use Rattle.rmm_spec.specs.declared.entry.EntryTest.{EntryTest}
use Rattle.rmm_spec.specs.declared.tag.Ripas.TheVariants.{Empty}
use Rattle.rmm_spec.specs.State.{State}
use Rattle.rmm_spec.specs.Table.{TableRecord}
use Rattle.rmm_spec.specs.Cell.{tables_of}
use Rattle.rmm_spec.specs.Walk.{entry_size, table_size, entry_at, is_live, is_table, passes, table_number, is_multiple}
use Rattle.spec_machine.specs.declared.granules.Granules.{Granules}
use Rattle.spec_machine.specs.Whole.{cells_of, state_in}

-- the table of that number at the level, which lies in the granule where it stands
pub record StandsAs (g : Granules) (rd level number : ℕ) (table : TableRecord) : Type 0 where
  pub granule : ℕ
  pub is_found : (state_in g).table rd level number ≡ Some granule
  pub is_held : tables_of (cells_of g.list) granule ≡ Some table

-- the table of that number at the level, or none where none stands
abbrev pub IsTable : Granules → ℕ → ℕ → ℕ → Option TableRecord → Type 0
IsTable g rd level number None = (state_in g).table rd level number ≡ None
IsTable g rd level number (Some table) = StandsAs g rd level number table

-- a table stands, and no entry of it is one that a stretch may not set
abbrev pub IsFree : Option TableRecord → StretchUse → Type 0
IsFree None purpose = ⊥
IsFree (Some table) Init = list_any is_live table.entries ≡ false
IsFree (Some table) (Requested rec ripas) = list_any is_table table.entries ≡ false

-- whether an entry of a table that doesn't stand is one that is looked for: a root may stand below the first, and the others have nothing
abbrev pub has_unlisted : State → ℕ → ℕ → ℕ → EntryTest → Bool
has_unlisted s rd level number test = passes test (entry_at s rd level (512 * number)) || passes test (Unassigned Empty)

-- whether a stretch may end there, whatever its entries are
unfoldable pub is_end : Stretch → ℕ → Bool
is_end stretch top =
    nat_lt stretch.base top
    && is_multiple (top - stretch.base) (entry_size stretch.level)
    && nat_le top stretch.top
    && nat_le top ((table_number stretch.level stretch.base + 1) * table_size stretch.level)
