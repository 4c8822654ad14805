-- A command by its function and words.
use Rattle.std.specs.Prelude.{ℕ, List}
use Rattle.rmm_spec.specs.declared.command.Command.{Command}
use Rattle.rmm_spec.specs.declared.function_id.FunctionId.{FunctionId}

abbrev pub command : FunctionId → List ℕ → Command
command function words = record { function = function; words = record { items = words } }
