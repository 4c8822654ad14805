-- What holds of each machine.
use Rattle.spec_machine.proofs.Common.{◌%◌, ◌/◌, ◌≡◌, IsSound, Machine, Some, TableRecord, cells_of, config_of, flat_state, length, state_in, state_of, whole_of, ℕ}
use Rattle.rmm_spec.specs.declared.entry.Entry.{Entry}
use Rattle.rmm_spec.specs.Shape.{HoldsTable}
use Rattle.rmm_spec.specs.Table.{place_number}
use Rattle.rmm_laws.proofs.Finds.{table_granule-holds}
use Rattle.rmm_laws.proofs.ShapeTies.{IsLeafIn, IsTied-shaped, entry_leaf, leaf-found, leaf-parts}
use Rattle.spec_machine.specs.View.{tables_at}
use Rattle.spec_machine.specs.Whole.{count_of}
use Rattle.spec_machine.proofs.Found.{sound_in}

-- its state is sound
pub machine_sound : (m : Machine) → IsSound (state_of m)
machine_sound m = sound_in m.granules m.shaped

-- a table in a granule is the realm's at its place, and has 512 entries
pub table-stands : (m : Machine) (at : ℕ) (t : TableRecord) → tables_at m at ≡ Some t
    → (state_of m).table t.place.rd t.place.level (place_number t.place) ≡ Some at
unfolding state_in flat_state
table-stands m at t is =
    let g = m.granules in
    (IsTied-shaped (config_of g) (whole_of g).side (whole_of g).places (cells_of g.list) m.shaped).tables.found at t is

pub table-whole : (m : Machine) (at : ℕ) (t : TableRecord) → tables_at m at ≡ Some t → length t.entries ≡ 512
table-whole m at t is = m.shaped.tables.whole at t is

-- an entry of it is the state's leaf, where it is one
pub leaf-stands : (m : Machine) (rd level number at : ℕ) (t : TableRecord)
    → (state_of m).table rd level (number / 512) ≡ Some at → tables_at m at ≡ Some t
    → (state_of m).leaf rd level number ≡ entry_leaf t.entries (number % 512)
unfolding state_in flat_state
leaf-stands m rd level number at t found is = leaf-found (count_of m.granules) (tables_at m) rd level number at t found is

-- each table of the state lies in its granule, and each leaf in a table there
pub table-held : (m : Machine) (rd level number granule : ℕ) → (state_of m).table rd level number ≡ Some granule
    → HoldsTable (tables_at m) granule rd level number
unfolding state_in flat_state
table-held m rd level number granule is = table_granule-holds (count_of m.granules) (tables_at m) rd level number granule is

pub leaf-held : (m : Machine) (rd level number : ℕ) (e : Entry) → (state_of m).leaf rd level number ≡ Some e
    → IsLeafIn (state_of m).config.granules (tables_at m) rd level number e
unfolding state_in flat_state
leaf-held m rd level number e is = leaf-parts (count_of m.granules) (tables_at m) rd level number e is
