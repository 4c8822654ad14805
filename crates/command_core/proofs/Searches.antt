-- Searches below a number, of what is there once.
use Rattle.command_core.proofs.Common.{◌<◌, ◌==◌, ◌||◌, ◌∙◌, ◌≡◌, Bool, any_below, ap, arith, eqb-true, false, false≢true, if◌then◌else◌, not, refl, suc, sym, true, zero, ℕ}
use Rattle.rmm_spec.specs.Lookup.{greatest_below}
use Rattle.rmm_spec.specs.Shape.{count_below}

-- the one number that passes is the greatest that does
pub greatest_below-one : (n : ℕ) (p : ℕ → Bool) (k : ℕ) → k < n → p k ≡ true → ((j : ℕ) → p j ≡ true → j ≡ k) → greatest_below n p ≡ k
greatest_below-one zero p k within is one = absurd (omega arith)
greatest_below-one (suc n) p k within is one = by (p n) refl (λ below. greatest_below-one n p k below is one)
  where
    by : (b : Bool) → p n ≡ b → (k < n → greatest_below n p ≡ k) → (if b then n else greatest_below n p) ≡ k
    by true passes rest = one n passes
    by false fails rest =
        let differ : n ≡ k → ⊥ = λ same. false≢true (sym fails ∙ (ap p same ∙ is)) in
        rest (omega (arith, differ, within))

-- what is counted is there
pub any_below-counted : (n : ℕ) (p : ℕ → Bool) → any_below n p ≡ not (count_below n p == 0)
any_below-counted zero p = refl
any_below-counted (suc n) p = by (p n) (any_below-counted n p)
  where
    some : (c : ℕ) → (suc c == 0) ≡ false
    some c = by_test (suc c == 0) refl
      where
        by_test : (b : Bool) → (suc c == 0) ≡ b → (suc c == 0) ≡ false
        by_test true is = absurd (let bad : suc c ≡ 0 = eqb-true (suc c) 0 is in omega arith)
        by_test false is = is

    by : (b : Bool) → any_below n p ≡ not (count_below n p == 0)
        → (b || any_below n p) ≡ not ((if b then suc (count_below n p) else count_below n p) == 0)
    by true rest = ap not (sym (some (count_below n p)))
    by false rest = rest
