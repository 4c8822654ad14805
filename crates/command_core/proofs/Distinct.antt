-- Granules that are all different, and one more that is none of them.
use Rattle.command_core.proofs.Common.{◌==◌, ◌∷◌, ◌≡◌, IsTrue, List, [], and_from, and_parts, ap, are_distinct, arith, false, list_any, nat_tests, not, not-true, refl, ℕ}
use Rattle.std.proofs.Common.{◌++◌}
use Rattle.lemmas.proofs.Tests.{either}

-- none is the granule, so with one more none is
any-push : (gs : List ℕ) (g x : ℕ)
    → list_any (λ other. other == x) gs ≡ false → (g == x) ≡ false → list_any (λ other. other == x) (gs ++ g ∷ []) ≡ false
any-push [] g x none apart = rw apart refl
any-push (y ∷ gs) g x none apart =
    let parts = either (y == x) (list_any (λ other. other == x) gs) none in
    rw (parts.0) (any-push gs g x parts.1 apart)

-- with one more they are all different
pub distinct-push : (gs : List ℕ) (g : ℕ)
    → IsTrue (are_distinct gs) → list_any (λ other. other == g) gs ≡ false → IsTrue (are_distinct (gs ++ g ∷ []))
distinct-push [] g distinct none = refl
distinct-push (x ∷ gs) g distinct none =
    let parts = and_parts (not (list_any (λ other. other == x) gs)) (are_distinct gs) distinct in
    let apart = either (x == g) (list_any (λ other. other == g) gs) none in
    let first : (x == g) ≡ false = apart.0 in
    let swapped : (g == x) ≡ false = grind (arith, nat_tests) in
    let behind = any-push gs g x (not-true (list_any (λ other. other == x) gs) parts.0) swapped in
    and_from (not (list_any (λ other. other == x) (gs ++ g ∷ []))) (are_distinct (gs ++ g ∷ [])) (ap not behind) (distinct-push gs g parts.1 apart.1)
