-- The walk's loop: what was reached, its next step, and its end.
use Rattle.std.proofs.Common.{◌≡◌, ℕ, suc, ◌<◌, ◌≤◌, List, Some, refl, sym, ap, ◌∙◌, arith}
use Rattle.std.specs.List.{slice_get}
use Rattle.rmm_spec.specs.declared.entry.Entry.{Entry}
use Rattle.rmm_spec.specs.declared.entry.Entry.TheVariants.{Table}
use Rattle.rmm_spec.specs.State.{State}
use Rattle.rmm_spec.specs.Walk.{IsWalk}
use Rattle.rmm_spec.specs.Table.{TableRecord, entry_index}
use Rattle.rmm_spec.specs.TableCells.{TableCell, table_in, with_tables, LinksTo, ArePlaced, IsWalkable}
use Rattle.rtt_table.specs.Read.{IsRead}
use Rattle.spec_lemmas.proofs.WalkPaths.{OnPath, same_table}
use Rattle.rtt_table.proofs.Ends.{walk_from_end}

-- a table of the path up to max was reached, and its entry read
pub record IsReached (cells : List TableCell) (root ipa max pa level : ℕ) (entry : Entry) : Type 0 where
  pub walkable : IsWalkable cells root ipa max
  pub table : TableRecord
  pub path : OnPath cells root ipa max walkable pa table
  pub is_level : table.place.level ≡ level
  pub is_entry : slice_get table.entries (entry_index level ipa) ≡ Some entry
  pub within : level ≤ max

-- the root that was read is reached
pub root_is_reached : (cells : List TableCell) (root ipa max pa level : ℕ) (entry : Entry) → IsWalkable cells root ipa max
    → IsRead cells ipa root pa level entry → IsReached cells root ipa max pa level entry
root_is_reached cells root ipa max pa level entry w read =
    let same = same_table cells root root read.table w.table read.is_held w.is_root.is_held refl in
    let is_level : w.table.place.level ≡ level = sym (read.is_level ∙ ap (λ (x : TableRecord). x.place.level) same) in
    record {
      walkable = w;
      table = w.table;
      path = rw read.is_granule w.is_root;
      is_level = is_level;
      is_entry = rw (← same) read.is_entry;
      within = omega (arith, w.within);
    }

-- the table that a link of what was reached leads to, with its level
pub next_table : (cells : List TableCell) (root ipa max pa level next : ℕ) (entry : Entry)
    → (at : IsReached cells root ipa max pa level entry) → entry ≡ Table next
    → (t : TableRecord) × (OnPath cells root ipa max at.walkable next t) × (t.place.level ≡ suc level) × (t.place.level ≤ 3)
next_table cells root ipa max pa level next entry at is_link =
    let link : LinksTo at.table ipa next = rw at.is_level (at.is_entry ∙ ap (λ (x : Entry). Some x) is_link) in
    let child = at.walkable.links pa next at.table at.path link in
    (child.0, child.1, child.2 ∙ ap (λ (x : ℕ). suc x) at.is_level, at.walkable.levels next child.0 child.1)

-- a link of what was reached leads to a table
pub next_is_held : (cells : List TableCell) (root ipa max pa level next : ℕ) (entry : Entry)
    → IsReached cells root ipa max pa level entry → entry ≡ Table next
    → (t : TableRecord) × (table_in cells next ≡ Some t)
next_is_held cells root ipa max pa level next entry at is_link =
    let child = next_table cells root ipa max pa level next entry at is_link in (child.0, child.1.is_held)

-- the level of what is read there
pub next_level : (cells : List TableCell) (root ipa max pa level next to below : ℕ) (entry read_entry : Entry)
    → IsReached cells root ipa max pa level entry
    → entry ≡ Table next → IsRead cells ipa next to below read_entry → (below ≡ suc level) × (below ≤ 3)
next_level cells root ipa max pa level next to below entry read_entry at is_link read =
    let child = next_table cells root ipa max pa level next entry at is_link in
    let same = same_table cells next next read.table child.0 read.is_held child.1.is_held refl in
    let is_level = read.is_level ∙ ap (λ (x : TableRecord). x.place.level) same in
    (is_level ∙ child.2, omega (arith, child.3))

-- what is read there is reached
pub next_is_reached : (cells : List TableCell) (root ipa max pa level next to below : ℕ) (entry read_entry : Entry)
    → IsReached cells root ipa max pa level entry
    → level < max → entry ≡ Table next → IsRead cells ipa next to below read_entry → IsReached cells root ipa max to below read_entry
next_is_reached cells root ipa max pa level next to below entry read_entry at room is_link read =
    let child = next_table cells root ipa max pa level next entry at is_link in
    let same = same_table cells next next read.table child.0 read.is_held child.1.is_held refl in
    let is_level = read.is_level ∙ ap (λ (x : TableRecord). x.place.level) same in
    record {
      walkable = at.walkable;
      table = child.0;
      path = rw read.is_granule child.1;
      is_level = sym is_level;
      is_entry = rw (← same) read.is_entry;
      within = omega (arith, child.2);
    }

-- where there is no level to go or no link, what was reached is the walk's end
pub walk_ends : (cells : List TableCell) (root ipa max pa level : ℕ) (entry : Entry) → ArePlaced cells → IsReached cells root ipa max pa level entry
    → (level < max → (next : ℕ) → entry ≡ Table next → ⊥)
    → (s : State) (t : TableRecord) → table_in cells root ≡ Some t → IsWalk (with_tables s cells) t.place.rd ipa max level pa entry
walk_ends cells root ipa max pa level entry placed at last s t held =
    let same = same_table cells root root t at.walkable.table held at.walkable.is_root.is_held refl in
    rw same (walk_from_end cells root ipa max at.walkable placed s pa level entry (record {
      table = at.table;
      path = at.path;
      is_level = at.is_level;
      is_entry = at.is_entry;
      within = at.within;
      last = last;
    }))
