-- Elements of a list in which one was written.
use Rattle.std.proofs.Common.{◌≡◌, ◌≢◌, ◌⊎◌, ℕ, zero, suc, List, [], ◌∷◌, Some, slice_set, inl, inr, refl, sym, ap, arith}
use Rattle.std.specs.List.{slice_get}
use Rattle.std.proofs.lemmas.Option.{none-some, same_Some}

-- an element of it is the one that was written, at its place, or an old one
pub slice_get-set_cases : {X : Type 0} (xs : List X) (i : ℕ) (new : X) (k : ℕ) (x : X) → slice_get (slice_set xs i new) k ≡ Some x
    → ((k ≡ i) × (x ≡ new)) ⊎ ((k ≢ i) × (slice_get xs k ≡ Some x))
slice_get-set_cases [] i new k x is = absurd (none-some x is)
slice_get-set_cases (y ∷ xs) zero new zero x is = inl (refl, sym (same_Some new x is))
slice_get-set_cases (y ∷ xs) zero new (suc k) x is = inr (omega arith, is)
slice_get-set_cases (y ∷ xs) (suc i) new zero x is = inr (omega arith, is)
slice_get-set_cases (y ∷ xs) (suc i) new (suc k) x is = elim (slice_get-set_cases xs i new k x is) [
  | inl here ↦ inl (ap (λ (n : ℕ). suc n) here.0, here.1)
  | inr there ↦ let apart = there.0 in inr (omega (arith, apart), there.1)
]
