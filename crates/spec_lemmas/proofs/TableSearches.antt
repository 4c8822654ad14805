-- A search through a list is one through its places.
use Rattle.std.proofs.Common.{◌≡◌, ℕ, zero, suc, ◌<◌, Bool, true, false, ◌||◌, List, [], ◌∷◌, length, Some, slice_get, refl, sym, ap, ◌∙◌, arith}
use Rattle.std.specs.List.{list_any}
use Rattle.rmm_spec.specs.Lookup.{any_below}

swapped : (a b c : Bool) → (a || (b || c)) ≡ (b || (a || c))
swapped true true c = refl
swapped true false c = refl
swapped false b c = refl

-- the first number may be looked at before the others
any_below-front : (n : ℕ) (passes : ℕ → Bool) → any_below (suc n) passes ≡ (passes 0 || any_below n (λ k. passes (suc k)))
any_below-front zero passes = refl
any_below-front (suc n) passes =
    ap (λ b. passes (suc n) || b) (any_below-front n passes) ∙ swapped (passes (suc n)) (passes 0) (any_below n (λ k. passes (suc k)))

-- where a test of each element is one of its place
pub search-places : {X : Type 0} (test : X → Bool) (xs : List X) (passes : ℕ → Bool)
    → ((k : ℕ) (x : X) → k < length xs → slice_get xs k ≡ Some x → test x ≡ passes k) → list_any test xs ≡ any_below (length xs) passes
search-places test [] passes each = refl
search-places test (x ∷ xs) passes each =
    ap (λ b. b || list_any test xs) (each 0 x (omega arith) refl)
    ∙ ap (λ b. passes 0 || b) (search-places test xs (λ k. passes (suc k)) (λ k y below at. each (suc k) y (omega (arith, below)) at))
    ∙ sym (any_below-front (length xs) passes)
