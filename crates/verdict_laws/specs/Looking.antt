-- Commands that change nothing, whatever is replied to them.
use Rattle.std.specs.Prelude.{Bool, true, false}
use Rattle.rmm_spec.specs.declared.command.Command.{Command}
use Rattle.rmm_spec.specs.declared.function_id.FunctionId.{FunctionId}
use Rattle.rmm_spec.specs.declared.function_id.FunctionId.TheVariants as function

abbrev pub is_looking_function : FunctionId → Bool
is_looking_function function.RttReadEntry = true
is_looking_function function.MeasurementRead = true
is_looking_function function.RealmConfig = true
is_looking_function function.IpaStateGet = true
is_looking_function _ = false

-- whether the command only looks at the state
abbrev pub is_looking : Command → Bool
is_looking command = is_looking_function command.function
