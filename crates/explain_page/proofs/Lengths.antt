-- How long a list is that is made item by item.
use Rattle.std.proofs.Common.{ℕ, zero, suc, ◌+◌, ◌<◌, ◌≤◌, List, [], ◌∷◌, length, take, get_or, arith, length-append}
use Rattle.std.specs.List.{flat_map}

-- what the items before one give, and what it gives, is within what all give
pub flat_map_within : {X : Type 0} (f : X → List ℕ) (xs : List X) (i : ℕ) (d : X) → i < length xs
    → length (flat_map f (take i xs)) + length (f (get_or xs i d)) ≤ length (flat_map f xs)
flat_map_within f [] i d within = absurd (omega arith)
flat_map_within f (x ∷ xs) zero d within = omega (arith, length-append (f x) (flat_map f xs))
flat_map_within f (x ∷ xs) (suc i) d within =
    omega (arith, flat_map_within f xs i d (omega arith), length-append (f x) (flat_map f xs), length-append (f x) (flat_map f (take i xs)))
