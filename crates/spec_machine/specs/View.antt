-- The flat state that a machine stands for, and the table in each of its granules.
use Rattle.std.specs.Prelude.{ℕ, Option}
use Rattle.rmm_spec.specs.State.{State}
use Rattle.rmm_spec.specs.Table.{TableRecord}
use Rattle.spec_machine.specs.Whole as whole
use Rattle.spec_machine.specs.Whole.{state_in}
use Rattle.spec_machine.specs.declared.machine.Machine.{Machine}

abbrev pub state_of : Machine → State
state_of machine = state_in machine.granules

abbrev pub tables_at : Machine → ℕ → Option TableRecord
tables_at machine = whole.tables_at machine.granules
