-- The flat tables of cells: what they have is held at its own place, and what is held they have.
use Rattle.std.proofs.Common.{◌≡◌, ℕ, ◌≤◌, Bool, true, ◌&&◌, ◌==◌, List, Some, refl, sym, arith}
use Rattle.std.specs.List.{find, Contains}
use Rattle.std.proofs.lemmas.Bool.Decides.{nat_tests}
use Rattle.rmm_spec.specs.Walk.{table_number}
use Rattle.rmm_spec.specs.Table.{TableRecord, place_number, covers}
use Rattle.rmm_spec.specs.TableCells.{TableCell, table_in, is_table_at, flat_table, ArePlaced, IsOnPath}
use Rattle.lemmas.proofs.Finds.{find_is, find_some, option_map_some}

-- the table of a realm, level and number
pub record IsAtSpot (cells : List TableCell) (rd level number granule : ℕ) (table : TableRecord) : Type 0 where
  pub is_held : table_in cells granule ≡ Some table
  pub is_realm : table.place.rd ≡ rd
  pub is_level : table.place.level ≡ level
  pub is_number : place_number table.place ≡ number

-- three tests that pass together are three equations
spot_tests : (a b c d e f : ℕ) → (a == b && c == d && e == f) ≡ true → (a ≡ b) × (c ≡ d) × (e ≡ f)
spot_tests a b c d e f tests = (grind (arith, nat_tests), grind (arith, nat_tests), grind (arith, nat_tests))

-- three equations pass three tests together
spots_pass : (a b c d e f : ℕ) → a ≡ b → c ≡ d → e ≡ f → (a == b && c == d && e == f) ≡ true
spots_pass a b c d e f ab cd ef = grind (arith, nat_tests)

-- what is found at a spot is held there
pub found_at_spot : (cells : List TableCell) (rd level number : ℕ) (c : TableCell) → ArePlaced cells
    → find (is_table_at rd level number) cells ≡ Some c → IsAtSpot cells rd level number c.granule c.table
unfolding is_table_at
found_at_spot cells rd level number c placed found =
    let there = find_is (is_table_at rd level number) cells c found in
    let tests = spot_tests c.table.place.rd rd c.table.place.level level (place_number c.table.place) number there.1 in
    record { is_held = placed c there.0; is_realm = tests.0; is_level = tests.1; is_number = tests.2 }

-- a table that is held is that of one of the cells
held_is_found : (cells : List TableCell) (granule : ℕ) (table : TableRecord) → table_in cells granule ≡ Some table
    → (c : TableCell) × Contains cells c × (c.granule ≡ granule) × (c.table ≡ table)
unfolding table_in
held_is_found cells granule table held =
    let test : TableCell → Bool = λ c. c.granule == granule in
    let got = option_map_some (λ (c : TableCell). c.table) (find test cells) table held in
    let there = find_is test cells got.0 got.1 in
    let same : (got.0.granule == granule) ≡ true = there.1 in
    (got.0, there.0, grind (arith, nat_tests), got.2)

-- what is held at a spot is found there
pub spot_is_found : (cells : List TableCell) (rd level number granule : ℕ) (table : TableRecord) → IsAtSpot cells rd level number granule table
    → (c : TableCell) × (find (is_table_at rd level number) cells ≡ Some c)
unfolding is_table_at
spot_is_found cells rd level number granule table spot =
    let there = held_is_found cells granule table spot.is_held in
    let passes : is_table_at rd level number there.0 ≡ true =
    rw there.3 (spots_pass table.place.rd rd table.place.level level (place_number table.place) number spot.is_realm spot.is_level spot.is_number) in
    find_some (is_table_at rd level number) cells there.0 there.1.0 there.1.1 there.1.2 passes

-- the flat table is the granule of the cell that is found
pub flat_table-found : (cells : List TableCell) (rd level number : ℕ) (c : TableCell) → find (is_table_at rd level number) cells ≡ Some c
    → flat_table cells rd level number ≡ Some c.granule
unfolding flat_table
flat_table-found cells rd level number c found = rw found refl

-- a spot on the path is a table on the path, and the other way round
pub on_path_from_spot : (cells : List TableCell) (rd start ipa level granule : ℕ) (table : TableRecord)
    → IsAtSpot cells rd level (table_number level ipa) granule table → start ≤ level → IsOnPath cells rd start ipa granule table
unfolding covers
on_path_from_spot cells rd start ipa level granule table spot below = record {
  is_held = spot.is_held;
  is_realm = spot.is_realm;
  is_below = omega (arith, spot.is_level);
  is_over = rw (spot.is_number, spot.is_level) (grind (arith, nat_tests));
}

pub spot_from_on_path : (cells : List TableCell) (rd start ipa level granule : ℕ) (table : TableRecord)
    → IsOnPath cells rd start ipa granule table → table.place.level ≡ level → IsAtSpot cells rd level (table_number level ipa) granule table
unfolding covers
spot_from_on_path cells rd start ipa level granule table path is_level = record {
  is_held = path.is_held;
  is_realm = path.is_realm;
  is_level = is_level;
  is_number =
      let over : (table_number table.place.level ipa == place_number table.place) ≡ true = path.is_over in
      let same : table_number table.place.level ipa ≡ place_number table.place = grind (arith, nat_tests) in
      rw (← is_level) (sym same);
}
