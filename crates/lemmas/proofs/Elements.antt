-- Elements of a list that has more at its end, of a list's front, and of one that is mapped.
use Rattle.std.proofs.Common.{◌≡◌, ℕ, zero, suc, ◌+◌, ◌<◌, List, [], ◌∷◌, ◌++◌, ◌⊎◌, inl, inr, length, take, drop, get_or, replicate, Some, refl, ap, arith, add-one, map}
use Rattle.std.specs.List.{slice_get}
use Rattle.std.proofs.lemmas.Option.{none-some, same_Some}

-- an element of the longer list is an old one or the one at the end
pub slice_get_push_cases : {X : Type 0} (xs : List X) (y : X) (i : ℕ) (x : X) → slice_get (xs ++ y ∷ []) i ≡ Some x
    → (slice_get xs i ≡ Some x) ⊎ ((i ≡ length xs) × (x ≡ y))
slice_get_push_cases [] y zero x is = inr (refl, same_Some x y (let e : Some x ≡ Some y = cc in e))
slice_get_push_cases [] y (suc i) x is = absurd (none-some x is)
slice_get_push_cases (z ∷ xs) y zero x is = inl is
slice_get_push_cases (z ∷ xs) y (suc i) x is =
    elim (slice_get_push_cases xs y i x is) [ inl old ↦ inl old | inr new ↦ inr (ap (λ (n : ℕ). suc n) new.0, new.1) ]

-- an element of a front
pub slice_get-take : {X : Type 0} (n : ℕ) (xs : List X) (i : ℕ) (x : X) → slice_get (take n xs) i ≡ Some x → (i < n) × (slice_get xs i ≡ Some x)
slice_get-take zero xs i x is = absurd (none-some x is)
slice_get-take (suc n) [] i x is = absurd (none-some x is)
slice_get-take (suc n) (y ∷ xs) zero x is = (omega arith, is)
slice_get-take (suc n) (y ∷ xs) (suc i) x is = let rest = slice_get-take n xs i x is in (omega (arith, rest.0), rest.1)

-- an element before a front's end is one of the front
pub slice_get-front : {X : Type 0} (n : ℕ) (xs : List X) (i : ℕ) (x : X) → i < n → slice_get xs i ≡ Some x → slice_get (take n xs) i ≡ Some x
slice_get-front zero xs i x below is = absurd (omega (arith, below))
slice_get-front (suc n) [] i x below is = is
slice_get-front (suc n) (y ∷ xs) zero x below is = is
slice_get-front (suc n) (y ∷ xs) (suc i) x below is = slice_get-front n xs i x (omega (arith, below)) is

-- the front with one more element
take-suc_at : {X : Type 0} (xs : List X) (i : ℕ) (x : X) → slice_get xs i ≡ Some x → take (suc i) xs ≡ take i xs ++ x ∷ []
take-suc_at [] i x is = absurd (none-some x is)
take-suc_at (y ∷ xs) zero x is = ap (λ (z : _). z ∷ []) (same_Some y x is)
take-suc_at (y ∷ xs) (suc i) x is = ap (λ zs. y ∷ zs) (take-suc_at xs i x is)

pub take-next_at : {X : Type 0} (xs : List X) (i : ℕ) (x : X) → slice_get xs i ≡ Some x → take (i + 1) xs ≡ take i xs ++ x ∷ []
take-next_at xs i x is = rw add-one (take-suc_at xs i x is)

-- an element keeps its place when others are put behind
pub slice_get-append : {X : Type 0} (xs ys : List X) (i : ℕ) (x : X) → slice_get xs i ≡ Some x → slice_get (xs ++ ys) i ≡ Some x
slice_get-append [] ys i x is = absurd (none-some x is)
slice_get-append (first ∷ xs) ys zero x is = is
slice_get-append (first ∷ xs) ys (suc i) x is = slice_get-append xs ys i x is

-- one that is put behind has the next place
pub slice_get-push : {X : Type 0} (xs : List X) (y : X) → slice_get (xs ++ y ∷ []) (length xs) ≡ Some y
slice_get-push [] y = refl
slice_get-push (first ∷ xs) y = slice_get-push xs y

-- an element is an earlier one, or the one that was put behind
pub slice_get-push_cases : {X : Type 0} (xs : List X) (y : X) (i : ℕ) (x : X) → slice_get (xs ++ y ∷ []) i ≡ Some x
    → (slice_get xs i ≡ Some x) ⊎ ((i ≡ length xs) × (y ≡ x))
slice_get-push_cases [] y zero x is = inr (refl, same_Some y x is)
slice_get-push_cases [] y (suc i) x is = absurd (none-some x is)
slice_get-push_cases (first ∷ xs) y zero x is = inl is
slice_get-push_cases (first ∷ xs) y (suc i) x is = next (slice_get-push_cases xs y i x is)
  where
    next : (slice_get xs i ≡ Some x) ⊎ ((i ≡ length xs) × (y ≡ x)) → (slice_get xs i ≡ Some x) ⊎ ((suc i ≡ suc (length xs)) × (y ≡ x))
    next (inl earlier) = inl earlier
    next (inr last) = inr (ap suc last.0, last.1)

-- what a mapped list has at a place comes from an element there
pub slice_get-map_from : {X Y : Type 0} (f : X → Y) (xs : List X) (i : ℕ) (y : Y) → slice_get (map f xs) i ≡ Some y
    → (x : X) × (slice_get xs i ≡ Some x) × (f x ≡ y)
slice_get-map_from f [] i y is = absurd (none-some y is)
slice_get-map_from f (x ∷ xs) zero y is = (x, refl, same_Some (f x) y is)
slice_get-map_from f (x ∷ xs) (suc i) y is = slice_get-map_from f xs i y is

pub slice_get-map_to : {X Y : Type 0} (f : X → Y) (xs : List X) (i : ℕ) (x : X) → slice_get xs i ≡ Some x → slice_get (map f xs) i ≡ Some (f x)
slice_get-map_to f [] i x is = absurd (none-some x is)
slice_get-map_to f (first ∷ xs) zero x is = ap (λ z. Some (f z)) (same_Some first x is)
slice_get-map_to f (first ∷ xs) (suc i) x is = slice_get-map_to f xs i x is

pub map-push : {X Y : Type 0} (f : X → Y) (xs : List X) (x : X) → map f (xs ++ x ∷ []) ≡ map f xs ++ f x ∷ []
map-push f [] x = refl
map-push f (first ∷ xs) x = ap (λ zs. f first ∷ zs) (map-push f xs x)

-- what is first behind some elements
pub slice_get-drop : {A : Type 0} (xs : List A) (n : ℕ) → slice_get (drop n xs) 0 ≡ slice_get xs n
slice_get-drop [] zero = refl
slice_get-drop [] (suc n) = refl
slice_get-drop (x ∷ xs) zero = refl
slice_get-drop (x ∷ xs) (suc n) = slice_get-drop xs n

-- at each place within a list is an element
pub element_at : {X : Type 0} (xs : List X) (i : ℕ) → i < length xs → (x : X) × (slice_get xs i ≡ Some x)
element_at [] i within = absurd (omega (arith, within))
element_at (first ∷ xs) zero within = (first, refl)
element_at (first ∷ xs) (suc i) within = element_at xs i (omega (arith, within))

-- an element that is there is the same whatever stands for one that isn't
pub get_or-other : (xs : List ℕ) (i d e : ℕ) → i < length xs → get_or xs i d ≡ get_or xs i e
get_or-other [] i d e within = absurd (omega arith)
get_or-other (x ∷ xs) zero d e within = refl
get_or-other (x ∷ xs) (suc i) d e within = get_or-other xs i d e (omega arith)

-- what copies of one element tell is copies of what it tells
pub map-copies : {X Y : Type 0} (f : X → Y) (n : ℕ) (x : X) → map f (replicate n x) ≡ replicate n (f x)
map-copies f zero x = refl
map-copies f (suc n) x = ap (λ ys. f x ∷ ys) (map-copies f n x)
