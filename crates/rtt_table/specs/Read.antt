-- What a walk reads of one table.
use Rattle.std.specs.Prelude.{◌≡◌, ℕ, List, Some, slice_get}
use Rattle.rmm_spec.specs.declared.entry.Entry.{Entry}
use Rattle.rmm_spec.specs.Table.{TableRecord, entry_index}
use Rattle.rmm_spec.specs.TableCells.{TableCell, table_in}

-- what was read of the table in a granule: where it lies, its level, and its entry for the address
pub record IsRead (cells : List TableCell) (ipa granule pa level : ℕ) (entry : Entry) : Type 0 where
  pub table : TableRecord
  pub is_held : table_in cells granule ≡ Some table
  pub is_granule : pa ≡ granule
  pub is_level : level ≡ table.place.level
  pub is_entry : slice_get table.entries (entry_index level ipa) ≡ Some entry
