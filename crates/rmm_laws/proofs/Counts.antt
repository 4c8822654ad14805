-- A count over granules, where one more passes, or as many.
use Rattle.std.proofs.Common.{◌≡◌, ℕ, zero, suc, ◌<◌, ◌⊎◌, Bool, true, false, if◌then◌else◌, refl, sym, ap, ◌∙◌, inl, inr, arith}
use Rattle.rmm_spec.specs.Shape.{count_below}

pub count_below-same : (n : ℕ) (old new : ℕ → Bool) → ((j : ℕ) → j < n → new j ≡ old j) → count_below n new ≡ count_below n old
count_below-same zero old new same = refl
count_below-same (suc n) old new same = by (old n) refl (count_below-same n old new (λ j below. same j (omega (arith, below))))
  where
    by : (b : Bool) → old n ≡ b → count_below n new ≡ count_below n old
        → (if new n then suc (count_below n new) else count_below n new) ≡ (if old n then suc (count_below n old) else count_below n old)
    by b is rest = let last : new n ≡ old n = same n (omega arith) in rw last (ap (λ c. if old n then suc c else c) rest)

-- one number passes now that didn't
pub count_below-one : (n : ℕ) (old new : ℕ → Bool) (k : ℕ) → k < n → old k ≡ false → new k ≡ true → ((j : ℕ) → (j ≡ k → ⊥) → new j ≡ old j)
    → count_below n new ≡ suc (count_below n old)
count_below-one zero old new k below was is others = absurd (omega arith)
count_below-one (suc n) old new k below was is others = by (λ less. count_below-one n old new k less was is others) cases
  where
    cases : (k < n) ⊎ (k ≡ n)
    cases = grind arith

    step : (b : Bool) (c d : ℕ) → c ≡ suc d → (if b then suc c else c) ≡ suc (if b then suc d else d)
    step true c d more = ap suc more
    step false c d more = more

    by : (k < n → count_below n new ≡ suc (count_below n old)) → (k < n) ⊎ (k ≡ n)
        → (if new n then suc (count_below n new) else count_below n new) ≡ suc (if old n then suc (count_below n old) else count_below n old)
    by rest (inl less) =
        ap (λ b. if b then suc (count_below n new) else count_below n new)
        (others n (λ same. let bad : n < n = (let at : k ≡ n = sym same in omega arith) in omega arith))
        ∙ step (old n) (count_below n new) (count_below n old) (rest less)
    by rest (inr last) =
        ap (λ b. if b then suc (count_below n new) else count_below n new) (sym (ap new last) ∙ is)
        ∙ ap suc (count_below-same n old new (λ j less. others j (λ same. let bad : j < n = less in omega arith)))
        ∙ ap (λ b. suc (if b then suc (count_below n old) else count_below n old)) (sym (sym (ap old last) ∙ was))
