-- The first element that passes: where there is one, it is an element and passes.
use Rattle.std.proofs.Common.{◌≡◌, ℕ, zero, suc, ◌<◌, Bool, true, false, cond, List, [], ◌∷◌, length, Option, Some, None, refl, sym, ◌∙◌, arith}
use Rattle.std.specs.List.{find, Contains, slice_index_or}
use Rattle.std.specs.Option.{option_map}
use Rattle.lemmas.proofs.Members.{Contains-head, Contains-tail}

-- what is found is an element that passes
abbrev pub IsFound : {X : Type 0} → (X → Bool) → List X → X → Type 0
IsFound test xs y = Contains xs y × (test y ≡ true)

-- one step: the first element passes, or the rest has what is found
find_is-by : {X : Type 0} (test : X → Bool) (x y : X) (xs : List X) (b : Bool) → test x ≡ b → cond b (Some x) (find test xs) ≡ Some y
    → (find test xs ≡ Some y → IsFound test xs y) → IsFound test (x ∷ xs) y
find_is-by test x y xs true passes found later =
    let same : x ≡ y = cc in rw (← same) (Contains-head x xs, passes)
find_is-by test x y xs false fails found later = let there = later found in (Contains-tail x xs y there.0, there.1)

-- what is found is an element and passes
pub find_is : {X : Type 0} (test : X → Bool) (xs : List X) (y : X) → find test xs ≡ Some y → IsFound test xs y
find_is test [] y found = absurd (let bad : None ≡ Some y = found in cc)
find_is test (x ∷ xs) y found = find_is-by test x y xs _ refl found (find_is test xs y)

-- one step: the first element is found, or something in the rest
find_some-by : {X : Type 0} (test : X → Bool) (x : X) (xs : List X) (b : Bool) → test x ≡ b
    → (b ≡ false → (z : X) × (find test xs ≡ Some z)) → (z : X) × (cond b (Some x) (find test xs) ≡ Some z)
find_some-by test x xs true passes later = (x, refl)
find_some-by test x xs false fails later = later refl

-- where an element passes, something is found
pub find_some : {X : Type 0} (test : X → Bool) (xs : List X) (y : X) → (k : ℕ) → k < length xs → slice_index_or xs k y ≡ y → test y ≡ true
    → (z : X) × (find test xs ≡ Some z)
find_some test [] y k within at passes = absurd (omega arith)
find_some test (x ∷ xs) y zero within at passes =
    find_some-by test x xs _ refl (λ fails. absurd (let same : x ≡ y = at in let bad : true ≡ false = sym passes ∙ (rw (← same) fails) in cc))
find_some test (x ∷ xs) y (suc k) within at passes = find_some-by test x xs _ refl (λ fails. find_some test xs y k (omega arith) at passes)

-- what a mapped option has is the image of what the option has
pub option_map_some : {X Y : Type 0} (f : X → Y) (o : Option X) (y : Y) → option_map f o ≡ Some y → (x : X) × (o ≡ Some x) × (f x ≡ y)
option_map_some f None y is = absurd (let bad : None ≡ Some y = is in cc)
option_map_some f (Some x) y is = (x, refl, let same : Some (f x) ≡ Some y = is in cc)
