-- Lists that are compared or copied element by element.
use Rattle.undo_log.proofs.Common.{◌<◌, ◌∷◌, ◌≡◌, ◌≤◌, List, [], arith, length, refl, same_Some, slice_get, suc, ℕ}

-- two lists are the same up to a place
abbrev pub SameTo : {A : Type 0} → ℕ → List A → List A → Type 0
SameTo i xs ys = (j : ℕ) → j < i → slice_get xs j ≡ slice_get ys j

pub same_lists : {A : Type 0} (xs ys : List A) → length xs ≡ length ys → SameTo (length xs) xs ys → xs ≡ ys
same_lists [] [] size same = refl
same_lists [] (y ∷ ys) size same = absurd (omega (arith, size))
same_lists (x ∷ xs) [] size same = absurd (omega (arith, size))
same_lists (x ∷ xs) (y ∷ ys) size same =
    let head = same_Some x y (same 0 (omega arith)) in
    let tail = same_lists xs ys (omega (arith, size)) (λ j below. same (suc j) (omega (arith, below))) in
    λ i. head i ∷ tail i

pub same_up_to : {A : Type 0} (i : ℕ) (xs ys : List A) → length xs ≡ length ys → length xs ≤ i → SameTo i xs ys → xs ≡ ys
same_up_to i xs ys size past same = same_lists xs ys size (λ j below. same j (omega (arith, below, past)))
