-- What is the same of cells but for measurements is so of the states that they make.
use Rattle.undo_log.proofs.Common.{Config, RealmRecord, flat_state, refl, ℕ, ◌≡◌}
use Rattle.std.specs.Prelude.{option_map}
use Rattle.rmm_spec.specs.Cell as spec
use Rattle.rmm_spec.specs.Flat.{table_granule, leaf_in_tables}
use Rattle.spec_machine.specs.Unmeasured.{unmeasured, unmeasured_cell, unmeasured_realm}

-- nothing else of a cell is changed
tag_of-unmeasured : (cell : spec.Cell) → spec.tag_of (unmeasured_cell cell) ≡ spec.tag_of cell
tag_of-unmeasured (spec.Rd realm) = refl
tag_of-unmeasured _ = refl

realm_in-unmeasured : (cell : spec.Cell) → spec.realm_in (unmeasured_cell cell) ≡ option_map unmeasured_realm (spec.realm_in cell)
realm_in-unmeasured (spec.Rd realm) = refl
realm_in-unmeasured _ = refl

rec_in-unmeasured : (cell : spec.Cell) → spec.rec_in (unmeasured_cell cell) ≡ spec.rec_in cell
rec_in-unmeasured (spec.Rd realm) = refl
rec_in-unmeasured _ = refl

table_in-unmeasured : (cell : spec.Cell) → spec.table_in (unmeasured_cell cell) ≡ spec.table_in cell
table_in-unmeasured (spec.Rd realm) = refl
table_in-unmeasured _ = refl

-- the state of cells but for measurements is their state but for them
pub flat_state-unmeasured : (config : Config) (cells : ℕ → spec.Cell)
    → flat_state config (λ a. unmeasured_cell (cells a)) ≡ unmeasured (flat_state config cells)
unfolding flat_state
flat_state-unmeasured config cells = λ i. record {
  config = config;
  tag = λ a. tag_of-unmeasured (cells a) i;
  realm = λ a. realm_in-unmeasured (cells a) i;
  rec = λ a. rec_in-unmeasured (cells a) i;
  table = table_granule config.granules (λ a. table_in-unmeasured (cells a) i);
  leaf = leaf_in_tables config.granules (λ a. table_in-unmeasured (cells a) i);
}

-- a realm is what it is but for measurements, and these
pub realm-measured : (one other : RealmRecord) → unmeasured_realm one ≡ unmeasured_realm other → one.rim ≡ other.rim → one.rems ≡ other.rems
    → one ≡ other
realm-measured one other same rim rems = λ i. record (same i) { rim = rim i; rems = rems i }
