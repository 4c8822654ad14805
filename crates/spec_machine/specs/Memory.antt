-- Which changes and commands take memory: those that make a table.
use Rattle.std.specs.Prelude.{Bool, true, false}
use Rattle.rmm_spec.specs.declared.change.Change.{Change}
use Rattle.rmm_spec.specs.declared.function_id.FunctionId.{FunctionId}
use Rattle.rmm_spec.specs.declared.function_id.FunctionId.TheVariants.{RealmCreate, RttCreate}
use Rattle.granule_cells.specs.Rooms as rooms

-- a table is made
abbrev pub takes_memory : Change → Bool
takes_memory change = rooms.makes_table change

-- the commands that make one
abbrev pub makes_table : FunctionId → Bool
makes_table RealmCreate = true
makes_table RttCreate = true
makes_table _ = false
