-- Where following links ends, the walk of the flat tables and leaves does.
use Rattle.std.proofs.Common.{◌≡◌, ℕ, suc, ◌+◌, ◌*◌, ◌/◌, ◌%◌, ◌<◌, ◌≤◌, Bool, true, false, List, Option, Some, None, nat_lt, if◌then◌else◌, refl, sym, ap, ◌∙◌, arith, add-one}
use Rattle.std.specs.List.{find, slice_get}
use Rattle.std.proofs.Math.Nat.{div-div-eq-div-mul}
use Rattle.std.proofs.lemmas.Bool.Decides.{nat_tests}
use Rattle.rmm_spec.specs.declared.entry.Entry.{Entry}
use Rattle.rmm_spec.specs.declared.entry.Entry.TheVariants.{Unassigned, Assigned, Table, UnassignedNs, AssignedNs}
use Rattle.rmm_spec.specs.State.{State}
use Rattle.rmm_spec.specs.Walk.{entry_number, table_number, entry_size, table_size, is_table, entry_at, entry_for, IsWalk}
use Rattle.rmm_spec.specs.Table.{TableRecord, entry_index}
use Rattle.rmm_spec.specs.TableCells.{TableCell, is_table_at, flat_table, flat_leaf, with_tables, LinksTo, ArePlaced, IsWalkable}
use Rattle.spec_lemmas.proofs.WalkLaws.{table_number-suc, table_size-entries}
use Rattle.spec_lemmas.proofs.FlatTables.{found_at_spot, spot_is_found, flat_table-found, on_path_from_spot, spot_from_on_path}
use Rattle.spec_lemmas.proofs.WalkPaths.{OnPath, same_on_path, link_of_deeper}

-- a table of the path is what the cells have at its level
record IsFoundAt (cells : List TableCell) (rd level ipa granule : ℕ) (table : TableRecord) : Type 0 where
  cell : TableCell
  found : find (is_table_at rd level (table_number level ipa)) cells ≡ Some cell
  is_granule : cell.granule ≡ granule
  is_table : cell.table ≡ table

-- a table of the path is the first that the cells have of its realm, level and number
path_is_found : (cells : List TableCell) (root ipa max : ℕ) (w : IsWalkable cells root ipa max) → ArePlaced cells
    → (level granule : ℕ) (t : TableRecord) → OnPath cells root ipa max w granule t → t.place.level ≡ level
    → IsFoundAt cells w.table.place.rd level ipa granule t
path_is_found cells root ipa max w placed level granule t path is_level =
    let rd = w.table.place.rd in
    let first = spot_is_found cells rd level (table_number level ipa) granule t
    (spot_from_on_path cells rd w.table.place.level ipa level granule t path is_level) in
    let spot = found_at_spot cells rd level (table_number level ipa) first.0 placed first.1 in
    let below : w.table.place.level ≤ level = omega (arith, path.is_below) in
    let on = on_path_from_spot cells rd w.table.place.level ipa level first.0.granule first.0.table spot below in
    let same = same_on_path cells root ipa max w first.0.granule granule first.0.table t on path (spot.is_level ∙ sym is_level) in
    record { cell = first.0; found = first.1; is_granule = same.0; is_table = same.1 }

-- where the path has a table of a level, the flat tables have its granule
flat_table-path : (cells : List TableCell) (root ipa max : ℕ) (w : IsWalkable cells root ipa max) → ArePlaced cells
    → (level granule : ℕ) (t : TableRecord) → OnPath cells root ipa max w granule t → t.place.level ≡ level
    → flat_table cells w.table.place.rd level (table_number level ipa) ≡ Some granule
flat_table-path cells root ipa max w placed level granule t path is_level =
    let at = path_is_found cells root ipa max w placed level granule t path is_level in
    flat_table-found cells w.table.place.rd level (table_number level ipa) at.cell at.found ∙ ap (λ (x : ℕ). Some x) at.is_granule

-- where the path has no table of a level, the cells have none that covers the address
flat_table-none-by : (cells : List TableCell) (root ipa max : ℕ) (w : IsWalkable cells root ipa max) → ArePlaced cells
    → (level : ℕ) → w.table.place.level ≤ level
    → ((granule : ℕ) (t : TableRecord) → OnPath cells root ipa max w granule t → t.place.level ≡ level → ⊥)
    → (found : Option TableCell) → find (is_table_at w.table.place.rd level (table_number level ipa)) cells ≡ found
    → flat_table cells w.table.place.rd level (table_number level ipa) ≡ None
unfolding flat_table
flat_table-none-by cells root ipa max w placed level below nothing None is_found = rw is_found refl
flat_table-none-by cells root ipa max w placed level below nothing (Some c) is_found =
    let spot = found_at_spot cells w.table.place.rd level (table_number level ipa) c placed is_found in
    absurd (nothing c.granule c.table
    (on_path_from_spot cells w.table.place.rd w.table.place.level ipa level c.granule c.table spot below) spot.is_level)

-- the same, whatever the cells have at the level
flat_table-none : (cells : List TableCell) (root ipa max : ℕ) (w : IsWalkable cells root ipa max) → ArePlaced cells
    → (level : ℕ) → w.table.place.level ≤ level
    → ((granule : ℕ) (t : TableRecord) → OnPath cells root ipa max w granule t → t.place.level ≡ level → ⊥)
    → flat_table cells w.table.place.rd level (table_number level ipa) ≡ None
flat_table-none cells root ipa max w placed level below nothing = flat_table-none-by cells root ipa max w placed level below nothing _ refl

-- an entry's number over 512 is its table's
entry_number-table : (level ipa : ℕ) → level ≤ 3 → entry_number level ipa / 512 ≡ table_number level ipa
unfolding entry_number table_number
entry_number-table level ipa within =
    let size : entry_size level * 512 ≡ table_size level = omega (arith, table_size-entries level within) in
    div-div-eq-div-mul ipa (entry_size level) 512 ∙ ap (λ (n : ℕ). ipa / n) size

-- the entry of the table that the cells have there is the flat leaf, if it is no link
flat_leaf-found : (cells : List TableCell) (rd level number : ℕ) (c : TableCell) (entry : Entry)
    → find (is_table_at rd level (number / 512)) cells ≡ Some c → slice_get c.table.entries (number % 512) ≡ Some entry → is_table entry ≡ false
    → flat_leaf cells rd level number ≡ Some entry
unfolding flat_leaf
flat_leaf-found cells rd level number c entry found at no_link = rw (found, at, no_link) refl

-- what was reached: a table of the path and its entry, which is no link where there is a level to go
pub record IsEnd (cells : List TableCell) (root ipa max : ℕ) (w : IsWalkable cells root ipa max) (pa level : ℕ) (entry : Entry) : Type 0 where
  pub table : TableRecord
  pub path : OnPath cells root ipa max w pa table
  pub is_level : table.place.level ≡ level
  pub is_entry : slice_get table.entries (entry_index level ipa) ≡ Some entry
  pub within : level ≤ max
  pub last : level < max → (next : ℕ) → entry ≡ Table next → ⊥

-- an entry that links to a granule is that link
link_is_entry : (table : TableRecord) (level ipa next : ℕ) (entry : Entry) → table.place.level ≡ level
    → slice_get table.entries (entry_index level ipa) ≡ Some entry → LinksTo table ipa next → entry ≡ Table next
link_is_entry table level ipa next entry is_level is_entry link =
    let there : slice_get table.entries (entry_index level ipa) ≡ Some (Table next) = rw is_level at link in
    let same : Some entry ≡ Some (Table next) = sym is_entry ∙ there in cc

-- a link on the path is the entry of the flat tables
entry_for-link : (cells : List TableCell) (root ipa max : ℕ) (w : IsWalkable cells root ipa max) → ArePlaced cells → (s : State)
    → (pa level : ℕ) (entry : Entry) → IsEnd cells root ipa max w pa level entry → (next : ℕ) → entry ≡ Table next
    → Table next ≡ entry_for (with_tables s cells) w.table.place.rd level ipa
unfolding entry_at
entry_for-link cells root ipa max w placed s pa level entry end next is_link =
    let link : LinksTo end.table ipa next = rw end.is_level (end.is_entry ∙ ap (λ (x : Entry). Some x) is_link) in
    let child = w.links pa next end.table end.path link in
    let down : child.0.place.level ≡ suc level = child.2 ∙ ap (λ (x : ℕ). suc x) end.is_level in
    let last : child.0.place.level ≤ 3 = w.levels next child.0 child.1 in
    let above : nat_lt level 3 ≡ true = grind (arith, nat_tests) in
    let below : flat_table cells w.table.place.rd (level + 1) (entry_number level ipa) ≡ Some next =
    rw (add-one level, ← (table_number-suc level ipa)) (flat_table-path cells root ipa max w placed (suc level) next child.0 child.1 down) in
    rw (above, below) refl

-- below a table whose entry is no link, the flat tables have none for the address
no_table_below : (cells : List TableCell) (root ipa max : ℕ) (w : IsWalkable cells root ipa max) → ArePlaced cells
    → (pa level : ℕ) (entry : Entry) → IsEnd cells root ipa max w pa level entry → is_table entry ≡ false
    → (deeper : ℕ) → level < deeper → flat_table cells w.table.place.rd deeper (table_number deeper ipa) ≡ None
no_table_below cells root ipa max w placed pa level entry end no_link deeper below =
    flat_table-none cells root ipa max w placed deeper (omega (arith, end.path.is_below, end.is_level))
    (λ granule t path is_deeper.
    let link = link_of_deeper cells root ipa max w pa granule end.table t end.path path (omega (arith, end.is_level)) in
    let is_link = link_is_entry end.table level ipa link.0 entry end.is_level end.is_entry link.1 in
    let bad : true ≡ false = sym (ap (λ (e : Entry). is_table e) is_link) ∙ no_link in cc)

-- where no table stands below, the test of the last level makes no difference
below-none-by : (cells : List TableCell) (rd level number : ℕ) (above : Bool) → flat_table cells rd (level + 1) number ≡ None
    → (if above then flat_table cells rd (level + 1) number else None) ≡ None
below-none-by cells rd level number true none = none
below-none-by cells rd level number false none = refl

-- an entry on the path that is no link is the entry of the flat tables
entry_for-leaf : (cells : List TableCell) (root ipa max : ℕ) (w : IsWalkable cells root ipa max) → ArePlaced cells → (s : State)
    → (pa level : ℕ) (entry : Entry) → IsEnd cells root ipa max w pa level entry → is_table entry ≡ false
    → entry ≡ entry_for (with_tables s cells) w.table.place.rd level ipa
unfolding entry_at entry_index
entry_for-leaf cells root ipa max w placed s pa level entry end no_link =
    let rd = w.table.place.rd in
    let number = entry_number level ipa in
    let within : level ≤ 3 = omega (arith, w.levels pa end.table end.path, end.is_level) in
    let at = path_is_found cells root ipa max w placed level pa end.table end.path end.is_level in
    let found : find (is_table_at rd level (number / 512)) cells ≡ Some at.cell = rw (entry_number-table level ipa within) at.found in
    let there : slice_get at.cell.table.entries (number % 512) ≡ Some entry = rw at.is_table end.is_entry in
    let leaf = flat_leaf-found cells rd level number at.cell entry found there no_link in
    let none : flat_table cells rd (level + 1) number ≡ None =
    rw (add-one level, ← (table_number-suc level ipa))
    (no_table_below cells root ipa max w placed pa level entry end no_link (suc level) (omega arith)) in
    rw (below-none-by cells rd level number (nat_lt level 3) none, leaf, no_link) refl

-- what was reached is the entry of the flat tables
entry_is : (cells : List TableCell) (root ipa max : ℕ) (w : IsWalkable cells root ipa max) → ArePlaced cells → (s : State)
    → (pa level : ℕ) (entry : Entry) → IsEnd cells root ipa max w pa level entry
    → entry ≡ entry_for (with_tables s cells) w.table.place.rd level ipa
entry_is cells root ipa max w placed s pa level (Table next) end = entry_for-link cells root ipa max w placed s pa level (Table next) end next refl
entry_is cells root ipa max w placed s pa level (Unassigned ripas) end =
    entry_for-leaf cells root ipa max w placed s pa level (Unassigned ripas) end refl
entry_is cells root ipa max w placed s pa level (Assigned ripas granule) end =
    entry_for-leaf cells root ipa max w placed s pa level (Assigned ripas granule) end refl
entry_is cells root ipa max w placed s pa level UnassignedNs end = entry_for-leaf cells root ipa max w placed s pa level UnassignedNs end refl
entry_is cells root ipa max w placed s pa level (AssignedNs page) end =
    entry_for-leaf cells root ipa max w placed s pa level (AssignedNs page) end refl

-- the end of the links is the walk
pub walk_from_end : (cells : List TableCell) (root ipa max : ℕ) (w : IsWalkable cells root ipa max) → ArePlaced cells → (s : State)
    → (pa level : ℕ) (entry : Entry) → IsEnd cells root ipa max w pa level entry
    → IsWalk (with_tables s cells) w.table.place.rd ipa max level pa entry
walk_from_end cells root ipa max w placed s pa level entry end = record {
  within = end.within;
  is_table = flat_table-path cells root ipa max w placed level pa end.table end.path end.is_level;
  deepest = λ deeper below within.
      flat_table-none cells root ipa max w placed deeper (omega (arith, end.path.is_below, end.is_level))
      (λ granule t path is_deeper.
      let link = link_of_deeper cells root ipa max w pa granule end.table t end.path path (omega (arith, end.is_level)) in
      end.last (omega arith) link.0 (link_is_entry end.table level ipa link.0 entry end.is_level end.is_entry link.1));
  is_entry = entry_is cells root ipa max w placed s pa level entry end;
}
