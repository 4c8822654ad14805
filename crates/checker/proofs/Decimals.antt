-- How many digits a number has.
use Rattle.std.proofs.Common.{◌≡◌, ℕ, ◌+◌, ◌^◌, ◌/◌, ◌<◌, ◌≤◌, length, map, arith}
use Rattle.std.specs.Int.Digits.{digits_of}
use Rattle.std.proofs.lemmas.List.{length-map}
use Rattle.std.proofs.lemmas.Int.Digits.{length-digits_of-le, length-digits_of_step}
use Rattle.rmm_spec.specs.Text.{glyph}

-- a digit more than the number without its last
pub digits_step : (n : ℕ) → 0 < n → length (digits_of 10 n) ≡ length (digits_of 10 (n / 10)) + 1
digits_step n some = length-digits_of_step 10 n (omega arith) some

-- at most 20 for a number of 64 bits
pub few_digits : (n : ℕ) → n < 2 ^ 64 → length (digits_of 10 n) ≤ 20
few_digits n small = length-digits_of-le 10 20 n (omega arith) (omega (arith, small))

pub shown_digits : (n : ℕ) → length (map glyph (digits_of 10 n)) ≡ length (digits_of 10 n)
shown_digits n = length-map (digits_of 10 n) glyph
