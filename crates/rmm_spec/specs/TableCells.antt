-- Granules with tables in them: the tables and leaves that a set of them stands for, and what a walk by links requires.
-- After DEN0137 (RTT); a walk of the profile itself reads no link.
use Rattle.std.specs.Prelude.{◌≡◌, ℕ, suc, ◌/◌, ◌%◌, ◌≤◌, ◌⊎◌, Bool, ◌==◌, if◌then◌else◌, IsTrue, List, Contains, Option, Some, None, option_map, slice_get, find}
use Rattle.std.specs.Option.{option_and_then}
use Rattle.rmm_spec.specs.declared.entry.Entry.{Entry}
use Rattle.rmm_spec.specs.declared.entry.Entry.TheVariants.{Table}
use Rattle.rmm_spec.specs.State.{State}
use Rattle.rmm_spec.specs.Update.{is_same_table}
use Rattle.rmm_spec.specs.Walk.{is_table}
use Rattle.rmm_spec.specs.Table.{TableRecord, entry_index, place_number, covers}

-- a table, and the granule that it lies in
pub record TableCell : Type 0 where
  pub granule : ℕ
  pub table : TableRecord

-- the table that lies in a granule
unfoldable pub table_in : List TableCell → ℕ → Option TableRecord
table_in cells granule = option_map (λ (c : TableCell). c.table) (find (λ (c : TableCell). c.granule == granule) cells)

-- each table is found at its own granule, so no granule has two
abbrev pub ArePlaced : List TableCell → Type 0
ArePlaced cells = (c : TableCell) → Contains cells c → table_in cells c.granule ≡ Some c.table

-- whether a table is that of the realm, level and number
unfoldable pub is_table_at : ℕ → ℕ → ℕ → TableCell → Bool
is_table_at rd level number c = is_same_table rd level number c.table.place.rd c.table.place.level (place_number c.table.place)

-- an entry that is no link
abbrev pub leaf_of : Entry → Option Entry
leaf_of entry = if is_table entry then None else Some entry

-- the granule of the table of the realm, level and number, each table taken at its own place
unfoldable pub flat_table : List TableCell → ℕ → ℕ → ℕ → Option ℕ
flat_table cells rd level number = option_map (λ (c : TableCell). c.granule) (find (is_table_at rd level number) cells)

-- the leaf of the realm, level and number, in the table of which it is an entry
unfoldable pub flat_leaf : List TableCell → ℕ → ℕ → ℕ → Option Entry
flat_leaf cells rd level number =
    option_and_then (λ (c : TableCell). option_and_then leaf_of (slice_get c.table.entries (number % 512)))
    (find (is_table_at rd level (number / 512)) cells)

-- the state with the tables and leaves that the cells stand for
abbrev pub with_tables : State → List TableCell → State
with_tables s cells = record s { table = flat_table cells; leaf = flat_leaf cells }

-- ---- what a walk by links asks

-- the entry of a table for the address is a link to a granule
abbrev pub LinksTo : TableRecord → ℕ → ℕ → Type 0
LinksTo table ipa granule = slice_get table.entries (entry_index table.place.level ipa) ≡ Some (Table granule)

-- a table of the realm from a level on that covers the address, in its granule
pub record IsOnPath (cells : List TableCell) (rd start ipa granule : ℕ) (table : TableRecord) : Type 0 where
  pub is_held : table_in cells granule ≡ Some table
  pub is_realm : table.place.rd ≡ rd
  pub is_below : start ≤ table.place.level
  pub is_over : IsTrue (covers table.place ipa)

-- The cells hold a root that covers the address, at a level up to max, and each table that the links from it for the
-- address lead to, which is one level below; from the root's level on no other table of its realm covers the address.
pub record IsWalkable (cells : List TableCell) (root ipa max : ℕ) : Type 0 where
  pub table : TableRecord
  pub is_root : IsOnPath cells table.place.rd table.place.level ipa root table
  pub within : table.place.level ≤ max
  pub levels : (granule : ℕ) (t : TableRecord) → IsOnPath cells table.place.rd table.place.level ipa granule t → t.place.level ≤ 3
  pub links : (granule next : ℕ) (t : TableRecord) → IsOnPath cells table.place.rd table.place.level ipa granule t → LinksTo t ipa next
      → (u : TableRecord) × IsOnPath cells table.place.rd table.place.level ipa next u × (u.place.level ≡ suc t.place.level)
  pub linked : (granule : ℕ) (t : TableRecord) → IsOnPath cells table.place.rd table.place.level ipa granule t
      → (granule ≡ root) ⊎ ((above : ℕ) × (u : TableRecord) × IsOnPath cells table.place.rd table.place.level ipa above u × LinksTo u ipa granule)
