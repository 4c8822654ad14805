-- Places that tables of realms can have: those of a whole's tables, of a new realm's root, and of a table below another.
use Rattle.std.proofs.Common.{◌≡◌, ℕ, zero, suc, ◌+◌, ◌-◌, ◌*◌, ◌/◌, ◌^◌, ◌<◌, ◌≤◌, IsTrue, Some, refl, sym, ap, ◌∙◌, subst, inl, inr, arith, mul-div_cancel}
use Rattle.std.proofs.Math.Nat.{zero-div}
use Rattle.std.proofs.lemmas.Nat.{pow_pos}
use Rattle.rmm_spec.specs.declared.place.Place.{Place}
use Rattle.rmm_spec.specs.Cell.{Cell, tables_of}
use Rattle.rmm_spec.specs.Change.{new_realm}
use Rattle.rmm_spec.specs.HistoryText.{Config}
use Rattle.rmm_spec.specs.Shape.{Side, CpuPlace, IsWellShaped}
use Rattle.rmm_spec.specs.Step.Terms.{is_space}
use Rattle.rmm_spec.specs.Table.{TableRecord, place_number}
use Rattle.rmm_spec.specs.Walk.{table_number, table_size}
use Rattle.rmm_laws.proofs.Spaces.{root_is_table, space_cases}
use Rattle.rtt_table.specs.Shaped.{IsShaped}
use Rattle.rmm_laws.specs.Whole.{root_table}

-- each table of a well-shaped whole stands at one
pub shaped-whole : (config : Config) (side : Side) (places : ℕ → CpuPlace) (cells : ℕ → Cell) → IsWellShaped config side places cells
    → (granule : ℕ) (t : TableRecord) → tables_of cells granule ≡ Some t → IsShaped t.place
shaped-whole config side places cells shaped granule t is =
    let placed = shaped.tables.placed granule t is in
    record { realm = placed.0; space = shaped.realms.spaces t.place.rd placed.0 placed.1; is_place = placed.2 }

-- so does a new realm's root
pub shaped-root : (rd width level : ℕ) → IsTrue (is_space width level) → IsShaped (root_table rd width level).place
unfolding place_number table_number
shaped-root rd width level space =
    let first : 0 / table_size level ≡ 0 = zero-div (table_size level) in
    record {
      realm = new_realm 0 width level 0 0;
      space = space;
      is_place = record {
        width = refl;
        within = root_is_table (new_realm 0 width level 0 0) space level (0 / table_size level) refl first;
        base = (let none : 0 ≡ 0 * table_size level = omega arith in none ∙ ap (λ n. n * table_size level) (sym first));
      };
    }

-- the first address is small
pub shaped-small : (place : Place) → IsShaped place → place.base < 2 ^ 64
shaped-small place shaped =
    let inside = shaped.is_place.within.inside in
    let base = shaped.is_place.base in
    elim (space_cases shaped.realm.width shaped.realm.start_level shaped.space) [
      | inl small ↦ (let within : place_number place * table_size place.level < 2 ^ 39 = rw small.0 at inside in omega arith)
      | inr wide ↦ (let within : place_number place * table_size place.level < 2 ^ 48 = rw wide.0 at inside in omega arith)
    ]

-- a table of that number is within the space where the one above it is
below-inside : (width start level number : ℕ) → IsTrue (is_space width start) → start < level → level ≤ 3
    → number / 512 * table_size (level - 1) < 2 ^ width → number * table_size level < 2 ^ width
unfolding table_size
below-inside width start zero number space above last inside = absurd (omega arith)
below-inside width start (suc zero) number space above last inside = elim (space_cases width start space) [
  | inl small ↦ absurd (omega (arith, small.1))
  | inr wide ↦ (let up : number / 512 * 2 ^ 48 < 2 ^ 48 = rw wide.0 at inside in rw wide.0 (omega arith))
]
below-inside width start (suc (suc zero)) number space above last inside = elim (space_cases width start space) [
  | inl small ↦ (let up : number / 512 * 2 ^ 39 < 2 ^ 39 = rw small.0 at inside in rw small.0 (omega arith))
  | inr wide ↦ (let up : number / 512 * 2 ^ 39 < 2 ^ 48 = rw wide.0 at inside in rw wide.0 (omega arith))
]
below-inside width start (suc (suc (suc zero))) number space above last inside = elim (space_cases width start space) [
  | inl small ↦ (let up : number / 512 * 2 ^ 30 < 2 ^ 39 = rw small.0 at inside in rw small.0 (omega arith))
  | inr wide ↦ (let up : number / 512 * 2 ^ 30 < 2 ^ 48 = rw wide.0 at inside in rw wide.0 (omega arith))
]
below-inside width start (suc (suc (suc (suc level)))) number space above last inside = absurd (omega arith)

-- the table of that number begins at its base
numbered : (rd level number width : ℕ)
    → place_number (record { rd = rd; level = level; base = number * table_size level; width = width }) ≡ number
unfolding place_number table_number table_size
numbered rd level number width = mul-div_cancel number (pow_pos (12 + 9 * (4 - level)))

-- where a table stands at such a place, one below it does
pub shaped-below : (place : Place) (rd level number : ℕ) → IsShaped place → 0 < level → level ≤ 3
    → place.level ≡ level - 1 → place_number place ≡ number / 512
    → IsShaped (record { rd = rd; level = level; base = number * table_size level; width = place.width })
shaped-below place rd level number shaped some last up above =
    let realm = shaped.realm in
    let within = shaped.is_place.within in
    let start : realm.start_level < level = omega (arith, within.below_root) in
    let there : number / 512 * table_size (level - 1) < 2 ^ realm.width =
    subst (λ n. n * table_size (level - 1) < 2 ^ realm.width) above
    (subst (λ l. place_number place * table_size l < 2 ^ realm.width) up within.inside) in
    let same = numbered rd level number place.width in
    record {
      realm = realm;
      space = shaped.space;
      is_place = record {
        width = shaped.is_place.width;
        within = record {
          below_root = omega arith;
          last = last;
          inside = subst (λ n. n * table_size level < 2 ^ realm.width) (sym same)
              (below-inside realm.width realm.start_level level number shaped.space start last there);
        };
        base = ap (λ n. n * table_size level) (sym same);
      };
    }
