-- A table that was found where the realm's table of a number at a level stands.
use Rattle.std.specs.Prelude.{◌≡◌, ℕ, Some}
use Rattle.spec_machine.specs.declared.granules.Granules.{Granules}
use Rattle.spec_machine.specs.declared.walks.FoundTable.{FoundTable}
use Rattle.spec_machine.specs.Whole.{state_in, tables_at}

pub record IsFoundIn (g : Granules) (rd level number : ℕ) (found : FoundTable) : Type 0 where
  pub stands : (state_in g).table rd level number ≡ Some found.granule
  pub held : Some found.table.now ≡ tables_at g found.granule
