-- An address's number at a level is small.
use Rattle.std.proofs.Common.{◌≡◌, ℕ, ◌+◌, ◌*◌, ◌/◌, ◌^◌, ◌<◌, arith}
use Rattle.std.proofs.lemmas.Nat.{div_below, pow-add, pow_pos}

-- what is left of a word without twelve bits or more
pub shifted_small : (ipa more : ℕ) → ipa < 2 ^ 64 → ipa / 2 ^ (12 + more) < 2 ^ 52
shifted_small ipa more fits =
    let some : 0 < 2 ^ more = pow_pos more in
    let size : 2 ^ (12 + more) ≡ 2 ^ 12 * 2 ^ more = pow-add 2 12 more in
    div_below ipa (2 ^ (12 + more)) (2 ^ 52) (pow_pos (12 + more)) (omega arith)
