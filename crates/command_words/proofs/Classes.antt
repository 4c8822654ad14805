-- Who gives a command is told by its function.
use Rattle.std.proofs.Common.{◌≡◌, ℕ, List, refl}
use Rattle.rmm_spec.specs.declared.function_id.FunctionId.{FunctionId}
use Rattle.rmm_spec.specs.declared.function_id.FunctionId.TheVariants as function
use Rattle.rmm_spec.specs.Call.{call_from, class_of}

pub class_of-words : (f : FunctionId) (v w : List ℕ) → class_of (call_from f v) ≡ class_of (call_from f w)
unfolding class_of call_from
class_of-words function.GranuleDelegate v w = refl
class_of-words _ v w = refl
