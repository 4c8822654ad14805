-- A table that lies where it was found before is the realm's, and a walk up to its level ends there.
use Rattle.spec_machine.proofs.Common.{◌≡◌, ◌≤◌, Entry, Granules, IsShapedIn, Some, TableRecord, arith, cells_of, config_of, entry_number, flat_state, slice_get, state_in, subst, sym, table_number, whole_of, ℕ}
use Rattle.rmm_spec.specs.Cell.{tables_of}
use Rattle.rmm_spec.specs.Table.{entry_index, place_number}
use Rattle.rmm_spec.specs.Walk.{walk}
use Rattle.rmm_laws.proofs.Walked.{table_number-entry}
use Rattle.rmm_laws.proofs.Finds.{holds-found}
use Rattle.rmm_laws.proofs.ShapeTies.{IsTied-shaped}
use Rattle.spec_machine.specs.Searches.{StandsAs}
use Rattle.spec_machine.specs.Whole.{count_of}
use Rattle.spec_machine.proofs.HeldEntries.{entry-stands}
use Rattle.spec_machine.proofs.WalkEnds.{walk-is}

-- it is found
pub near-table : (g : Granules) → IsShapedIn g → (rd level number granule : ℕ) (t : TableRecord) → Some t ≡ tables_of (cells_of g.list) granule
    → (t.place.rd ≡ rd) × (t.place.level ≡ level) × (place_number t.place ≡ number) → (state_in g).table rd level number ≡ Some granule
unfolding state_in flat_state
near-table g shaped rd level number granule t held placed =
    let w = whole_of g in
    holds-found (count_of g) (tables_of w.cells) granule rd level number (IsTied-shaped (config_of g) w.side w.places w.cells shaped).tables.found
    (record { table = t; is_held = sym held; is_realm = placed.0; is_level = placed.1; is_number = placed.2 })

-- and no table is deeper
pub near-walk : (g : Granules) → IsShapedIn g
    → (rd ipa max number granule : ℕ) (t : TableRecord) (e : Entry) → max ≤ 3 → number ≡ table_number max ipa
    → (state_in g).table rd max number ≡ Some granule → Some t ≡ tables_of (cells_of g.list) granule
    → slice_get t.entries (entry_index max ipa) ≡ Some e
    → record { level = max; granule = granule; entry = e } ≡ walk (state_in g) rd ipa max
unfolding entry_index
near-walk g shaped rd ipa max number granule t e within is_number at held here =
    let stands : StandsAs g rd max (table_number max ipa) t = record { granule = granule; is_found = rw is_number at at; is_held = sym held } in
    walk-is (state_in g) rd ipa max max granule e (record {
      within = omega arith;
      is_table = rw is_number at at;
      deepest = λ deeper less most. absurd (omega (arith, less, most));
      is_entry = entry-stands g shaped rd max (entry_number max ipa) t e
          (subst (λ n. StandsAs g rd max n t) (table_number-entry max ipa within) stands) here;
    })
