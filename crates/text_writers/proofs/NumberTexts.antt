-- The last hex digits of a number, one more.
use Rattle.std.proofs.Common.{◌≡◌, ℕ, zero, suc, ◌-◌, ◌/◌, ◌%◌, ◌<◌, [], ◌∷◌, ◌++◌, refl, ap, ◌∙◌, arith}
use Rattle.rmm_spec.specs.Text.{glyph, fixed_hex}
use Rattle.spec_lemmas.proofs.Texts.{fixed_hex-suc}

fixed_hex-zero : (n : ℕ) → fixed_hex 0 n ≡ []
unfolding fixed_hex
fixed_hex-zero n = refl

pub fixed_hex_none : (count n : ℕ) → count ≡ 0 → fixed_hex count n ≡ []
fixed_hex_none count n none = ap (λ k. fixed_hex k n) none ∙ fixed_hex-zero n

pub fixed_hex_more : (count n : ℕ) → 0 < count → fixed_hex count n ≡ fixed_hex (count - 1) (n / 16) ++ glyph (n % 16) ∷ []
fixed_hex_more zero n some = absurd (omega arith)
fixed_hex_more (suc count) n some =
    let less : count ≡ suc count - 1 = omega arith in
    fixed_hex-suc count n ∙ ap (λ k. fixed_hex k (n / 16) ++ glyph (n % 16) ∷ []) less
