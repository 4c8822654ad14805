-- Tests: one has one answer, and what the answer of a few says.
use Rattle.std.proofs.Common.{◌≡◌, ℕ, ◌==◌, Bool, true, false, ◌&&◌, ◌||◌, sym, ◌∙◌, refl, eq-eqb, eqb-true}
use Rattle.std.proofs.lemmas.Bool.{false_from_ne_true, false≢true}

-- a test can't have both answers
pub both_ways : {P : Type 0} {b : Bool} → b ≡ true → b ≡ false → P
both_ways {P} {b} holds fails = absurd (let bad : true ≡ false = sym holds ∙ fails in cc)

-- two keys that a test tells apart are not one
pub keys_apart : (other key : ℕ) → (other == key) ≡ false → other ≡ key → ⊥
keys_apart other key apart same = false≢true (sym apart ∙ eq-eqb other key same)

-- where neither of two tests passes
pub either : (b c : Bool) → (b || c) ≡ false → (b ≡ false) × (c ≡ false)
either true c is = absurd (false≢true (sym is))
either false c is = (refl, is)

-- one of two that passes lets either pass
pub or_second : (b c : Bool) → c ≡ true → (b || c) ≡ true
or_second true c is = refl
or_second false c is = is

-- and one that fails lets both fail
pub and_second-fails : (b c : Bool) → c ≡ false → (b && c) ≡ false
and_second-fails true c fails = fails
and_second-fails false c fails = refl

-- numbers that differ do so either way
pub apart : (one other : ℕ) → (one == other) ≡ false → (other == one) ≡ false
apart one other differ = false_from_ne_true (other == one) (λ same. both_ways (eq-eqb one other (sym (eqb-true other one same))) differ)
