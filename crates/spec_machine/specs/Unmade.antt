-- Blocks without places.
use Rattle.std.specs.Prelude.{ℕ, zero, suc, List, [], ◌∷◌}

-- how many blocks have no places
unfoldable pub unmade : List ℕ → ℕ
unmade [] = 0
unmade (zero ∷ starts) = suc (unmade starts)
unmade (suc start ∷ starts) = unmade starts
