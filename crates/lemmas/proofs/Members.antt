-- Members of a list: its first element, and those of the rest.
use Rattle.std.proofs.Common.{List, ◌∷◌, refl, suc, arith}
use Rattle.std.specs.Prelude.{Contains}

-- a list contains its first element
pub Contains-head : {X : Type 0} (x : X) (xs : List X) → Contains (x ∷ xs) x
Contains-head x xs = (0, omega arith, refl)

-- what the rest of a list contains, the list contains
pub Contains-tail : {X : Type 0} (x : X) (xs : List X) (y : X) → Contains xs y → Contains (x ∷ xs) y
Contains-tail x xs y has = (suc has.0, omega (arith, has.1), has.2)
