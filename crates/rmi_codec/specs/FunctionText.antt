-- The texts of the functions' numbers.
use Rattle.std.specs.Prelude.{ℕ}
use Rattle.std.specs.Int.{w64, from_be_bytes}
use Rattle.rmm_spec.specs.declared.function_id.FunctionId.{FunctionId}
use Rattle.rmm_spec.specs.Function.{number_of}
use Rattle.rmm_spec.specs.Text.{fixed_hex}

-- the eight bytes of a number's text, read as one number with the first byte highest
unfoldable pub text_number : FunctionId → ℕ
unfolding number_of fixed_hex
text_number f = from_be_bytes w64 (fixed_hex 8 (number_of f))
