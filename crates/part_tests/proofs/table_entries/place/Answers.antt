use Rattle.std.proofs.Common.{refl, arith}
use Rattle.rmm_spec.specs.Change.{new_realm}
use Rattle.rmm_spec.specs.Table.{place_number}
use Rattle.rmm_spec.specs.Walk.{table_number, table_size}
use Rattle.part_tests.proofs.table_entries.place.Goals as goal

pub returns : goal.returns
unfolding place_number table_number table_size
returns c = record {
  realm = new_realm 0 39 1 0 0;
  space = refl;
  is_place = record {
    width = refl;
    within = record { below_root = omega arith; last = omega arith; inside = omega arith };
    base = refl;
  };
}
