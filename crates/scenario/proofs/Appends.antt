-- Parts that are appended one after another.
use Rattle.std.proofs.Common.{◌≡◌, ℕ, List, [], ◌∷◌, ◌++◌, refl, ap}

line-parts : (a b : List ℕ) → ((a ++ 32 ∷ []) ++ b) ++ 10 ∷ [] ≡ a ++ (32 ∷ (b ++ 10 ∷ []))
line-parts [] b = refl
line-parts (x ∷ a) b = ap (λ xs. x ∷ xs) (line-parts a b)

-- a line of two parts
pub line-appends : (xs a b : List ℕ) → (((xs ++ a) ++ 32 ∷ []) ++ b) ++ 10 ∷ [] ≡ xs ++ (a ++ (32 ∷ (b ++ 10 ∷ [])))
line-appends [] a b = line-parts a b
line-appends (x ∷ xs) a b = ap (λ ys. x ∷ ys) (line-appends xs a b)
