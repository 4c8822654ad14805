-- What the places of held tables tell: each is one that a realm's table can have.
use Rattle.command_core.proofs.Common.{◌&&◌, ◌*◌, ◌+◌, ◌-◌, ◌<◌, ◌==◌, ◌∙◌, ◌≡◌, ◌≤◌, Bool, HeldCell, List, None, Option, Some, ap, arith, cell_in, eq-eqb, eqb-true, false, none-some, refl, subst, sym, table_held, table_placed, true, ℕ}
use Rattle.std.proofs.Common.{◌/◌, ◌^◌}
use Rattle.std.specs.Prelude.{IfSome, unwrap_or}
use Rattle.std.specs.Option.{option_and_then}
use Rattle.std.proofs.lemmas.Bool.{false_from_ne_true}
use Rattle.std.proofs.lemmas.Nat.{pow_pos}
use Rattle.rmm_spec.specs.declared.place.Place.{Place}
use Rattle.rmm_spec.specs.Cell as whole
use Rattle.rmm_spec.specs.Table.{TableRecord, place_number}
use Rattle.rmm_spec.specs.Update.{is_same_entry}
use Rattle.rmm_spec.specs.Walk.{table_size}
use Rattle.lemmas.proofs.Tests.{both_ways}
use Rattle.rmm_laws.proofs.Spaces.{unscaled_le}
use Rattle.rtt_table.specs.Shaped.{IsShaped}
use Rattle.rmm_laws.specs.Whole.{width_in}
use Rattle.rmm_laws.proofs.Cells.{cell-table}
use Rattle.world_laws.proofs.Found.{placed-holds}
use Rattle.granule_cells.specs.PlaceLaws.{shaped-below, shaped-small}
use Rattle.command_core.specs.Seen.{known_cell}

-- ---- one place

-- numbers are the same where their multiples are
multiples : (n m size : ℕ) → 1 ≤ size → (n == m) ≡ (n * size == m * size)
multiples n m size some = by (n == m) refl
  where
    by : (b : Bool) → (n == m) ≡ b → b ≡ (n * size == m * size)
    by true is = sym (eq-eqb (n * size) (m * size) (ap (λ k. k * size) (eqb-true n m is)))
    by false is = sym (false_from_ne_true (n * size == m * size) (λ same.
        let one : n * size ≡ m * size = eqb-true (n * size) (m * size) same in
        let up : n ≤ m = unscaled_le n m size (omega (arith, one)) some in
        let down : m ≤ n = unscaled_le m n size (omega (arith, one)) some in
        both_ways (eq-eqb n m (omega arith)) is))

-- a place is that of the number where its base is
pub shaped-base : (place : Place) (rd level number : ℕ) → IsShaped place
    → is_same_entry rd level number place.rd place.level (place_number place)
    ≡ (place.rd == rd && place.level == level && place.base == number * table_size level)
unfolding table_size
shaped-base place rd level number shaped = by (place.rd == rd) (place.level == level) refl
  where
    by : (a b : Bool) → (place.level == level) ≡ b
        → (a && b && place_number place == number) ≡ (a && b && place.base == number * table_size level)
    by false b is = refl
    by true false is = refl
    by true true is =
        multiples (place_number place) number (table_size level) (pow_pos (12 + 9 * (4 - level)))
        ∙ ap (λ base. base == number * table_size level)
        (ap (λ l. place_number place * table_size l) (sym (eqb-true place.level level is)) ∙ sym shaped.is_place.base)

-- ---- tables below held ones

-- a held table is known at its granule
known-table : (held : List HeldCell) (granule : ℕ) (t : TableRecord) → table_held held granule ≡ Some t → known_cell held granule ≡ whole.Rtt t
known-table held granule t = by (cell_in granule held) refl
  where
    by : (o : Option whole.Cell) → cell_in granule held ≡ o → option_and_then whole.table_in o ≡ Some t → unwrap_or o whole.Undelegated ≡ whole.Rtt t
    by None is there = absurd (none-some t there)
    by (Some c) is there = cell-table c t there

-- where the one above is held at such a place, so is one below it
pub made-shaped : (held : List HeldCell) (rd level number above : ℕ) → table_placed held rd (level - 1) (number / 512) ≡ Some above
    → IfSome (table_held held above) (λ (t : TableRecord). IsShaped t.place) → 0 < level → level ≤ 3
    → IsShaped (record { rd = rd; level = level; base = number * table_size level; width = width_in (known_cell held above) })
made-shaped held rd level number above is shaped some last =
    let holds = placed-holds held rd (level - 1) (number / 512) above is in
    let t = holds.table in
    let place = subst (λ (o : Option TableRecord). IfSome o (λ (x : TableRecord). IsShaped x.place)) holds.is_held shaped in
    subst (λ (c : whole.Cell). IsShaped (record { rd = rd; level = level; base = number * table_size level; width = width_in c }))
    (sym (known-table held above t holds.is_held))
    (shaped-below t.place rd level number place some last holds.is_level holds.is_number)

-- and begins at an address
pub made-small : (held : List HeldCell) (rd level number above : ℕ) → table_placed held rd (level - 1) (number / 512) ≡ Some above
    → IfSome (table_held held above) (λ (t : TableRecord). IsShaped t.place) → 0 < level → level ≤ 3 → number * table_size level < 2 ^ 64
made-small held rd level number above is shaped some last = shaped-small _ (made-shaped held rd level number above is shaped some last)
