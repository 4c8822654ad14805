-- One element of a list moved towards its front, and what is said of each element and of each two.
use Rattle.verdict_laws.proofs.Common.{◌≡◌, ℕ, zero, suc, ◌<◌, List, [], ◌∷◌, ◌++◌, Some, refl, ap, subst, arith, slice_get, none-some, same_Some}

-- each element
abbrev pub Each : {X : Type 0} → (X → Type 0) → List X → Type 0
Each P [] = Unit {0}
Each P (x ∷ xs) = P x × Each P xs

-- each element and each behind it
abbrev pub Pairs : {X : Type 0} → (X → X → Type 0) → List X → Type 0
Pairs R [] = Unit {0}
Pairs R (x ∷ xs) = Each (R x) xs × Pairs R xs

pub Each-from_places : {X : Type 0} (P : X → Type 0) (xs : List X) → ((i : ℕ) (x : X) → slice_get xs i ≡ Some x → P x) → Each P xs
Each-from_places P [] each = tt
Each-from_places P (x ∷ xs) each = (each 0 x refl, Each-from_places P xs (λ i y is. each (suc i) y is))

pub Each-at : {X : Type 0} (P : X → Type 0) (xs : List X) (i : ℕ) (x : X) → Each P xs → slice_get xs i ≡ Some x → P x
Each-at P [] i x each is = absurd (none-some x is)
Each-at P (y ∷ xs) zero x each is = subst P (same_Some y x is) each.0
Each-at P (y ∷ xs) (suc i) x each is = Each-at P xs i x each.1 is

pub Pairs-from_places : {X : Type 0} (R : X → X → Type 0) (xs : List X)
    → ((i j : ℕ) (x y : X) → i < j → slice_get xs i ≡ Some x → slice_get xs j ≡ Some y → R x y) → Pairs R xs
Pairs-from_places R [] each = tt
Pairs-from_places R (x ∷ xs) each = (
  Each-from_places (R x) xs (λ j y is. each 0 (suc j) x y (omega arith) refl is),
  Pairs-from_places R xs (λ i j y z below is there. each (suc i) (suc j) y z (omega (arith, below)) is there),
)

pub Pairs-at : {X : Type 0} (R : X → X → Type 0) (xs : List X) (i j : ℕ) (x y : X) → Pairs R xs → i < j → slice_get xs i ≡ Some x
    → slice_get xs j ≡ Some y → R x y
Pairs-at R [] i j x y pairs below is there = absurd (none-some x is)
Pairs-at R (z ∷ xs) i zero x y pairs below is there = absurd (omega (arith, below))
Pairs-at R (z ∷ xs) zero (suc j) x y pairs below is there = subst (λ w. R w y) (same_Some z x is) (Each-at (R z) xs j y pairs.0 there)
Pairs-at R (z ∷ xs) (suc i) (suc j) x y pairs below is there = Pairs-at R xs i j x y pairs.1 (omega (arith, below)) is there

pub Each-append : {X : Type 0} (P : X → Type 0) (xs ys : List X) → Each P xs → Each P ys → Each P (xs ++ ys)
Each-append P [] ys each more = more
Each-append P (x ∷ xs) ys each more = (each.0, Each-append P xs ys each.1 more)

-- each element of a list and each of another
pub Pairs-append : {X : Type 0} (R : X → X → Type 0) (xs ys : List X) → Pairs R xs → Pairs R ys → Each (λ x. Each (R x) ys) xs → Pairs R (xs ++ ys)
Pairs-append R [] ys pairs more across = more
Pairs-append R (x ∷ xs) ys pairs more across =
    (Each-append (R x) xs ys pairs.0 across.0, Pairs-append R xs ys pairs.1 more across.1)

pub Pairs-behind : {X : Type 0} (R : X → X → Type 0) (xs ys : List X) → Pairs R (xs ++ ys) → Pairs R ys
Pairs-behind R [] ys pairs = pairs
Pairs-behind R (x ∷ xs) ys pairs = Pairs-behind R xs ys pairs.1

-- ---- an element taken out of the middle

Each-without : {X : Type 0} (P : X → Type 0) (front back : List X) (x : X) → Each P (front ++ x ∷ back) → Each P (front ++ back)
Each-without P [] back x each = each.1
Each-without P (y ∷ front) back x each = (each.0, Each-without P front back x each.1)

Each-middle : {X : Type 0} (P : X → Type 0) (front back : List X) (x : X) → Each P (front ++ x ∷ back) → P x
Each-middle P [] back x each = each.0
Each-middle P (y ∷ front) back x each = Each-middle P front back x each.1

-- each element is said the same of, wherever the one stands
pub Each-moved : {X : Type 0} (P : X → Type 0) (xs front back : List X) (x : X)
    → Each P (xs ++ (front ++ x ∷ back)) → Each P (xs ++ (x ∷ (front ++ back)))
Each-moved P [] front back x each = (Each-middle P front back x each, Each-without P front back x each)
Each-moved P (y ∷ xs) front back x each = (each.0, Each-moved P xs front back x each.1)

Pairs-without : {X : Type 0} (R : X → X → Type 0) (front back : List X) (x : X) → Pairs R (front ++ x ∷ back) → Pairs R (front ++ back)
Pairs-without R [] back x pairs = pairs.1
Pairs-without R (y ∷ front) back x pairs = (Each-without (R y) front back x pairs.0, Pairs-without R front back x pairs.1)

behind_middle : {X : Type 0} (R : X → X → Type 0) (front back : List X) (x : X) → Pairs R (front ++ x ∷ back) → Each (R x) back
behind_middle R [] back x pairs = pairs.0
behind_middle R (y ∷ front) back x pairs = behind_middle R front back x pairs.1

-- two elements are said the same of, where the one may stand before each that it passes
pub Pairs-moved : {X : Type 0} (R : X → X → Type 0) (xs front back : List X) (x : X) → Pairs R (xs ++ (front ++ x ∷ back)) → Each (R x) front
    → Pairs R (xs ++ (x ∷ (front ++ back)))
Pairs-moved R [] front back x pairs passes =
    (Each-append (R x) front back passes (behind_middle R front back x pairs), Pairs-without R front back x pairs)
Pairs-moved R (y ∷ xs) front back x pairs passes =
    (Each-moved (R y) xs front back x pairs.0, Pairs-moved R xs front back x pairs.1 passes)

-- an element of a list is one of the list with the one first
place_first : {X : Type 0} (front back : List X) (x : X) (i : ℕ) (y : X) → slice_get (front ++ x ∷ back) i ≡ Some y
    → (j : ℕ) × (slice_get (x ∷ (front ++ back)) j ≡ Some y)
place_first [] back x i y is = (i, is)
place_first (z ∷ front) back x zero y is = (1, is)
place_first (z ∷ front) back x (suc i) y is = past (place_first front back x i y is)
  where
    past : (j : ℕ) × (slice_get (x ∷ (front ++ back)) j ≡ Some y) → (j : ℕ) × (slice_get (x ∷ (z ∷ (front ++ back))) j ≡ Some y)
    past (zero, there) = (0, there)
    past (suc j, there) = (suc (suc j), there)

-- and of one with it behind others
pub place_moved : {X : Type 0} (xs front back : List X) (x : X) (i : ℕ) (y : X) → slice_get (xs ++ (front ++ x ∷ back)) i ≡ Some y
    → (j : ℕ) × (slice_get (xs ++ (x ∷ (front ++ back))) j ≡ Some y)
place_moved [] front back x i y is = place_first front back x i y is
place_moved (z ∷ xs) front back x zero y is = (0, is)
place_moved (z ∷ xs) front back x (suc i) y is = let rest = place_moved xs front back x i y is in (suc rest.0, rest.1)

-- a list around one of its elements
pub record Around {X : Type 0} (xs : List X) (x : X) : Type 0 where
  pub front : List X
  pub back : List X
  pub whole : xs ≡ front ++ x ∷ back

pub around_place : {X : Type 0} (xs : List X) (i : ℕ) (x : X) → slice_get xs i ≡ Some x → Around xs x
around_place [] i x is = absurd (none-some x is)
around_place (y ∷ xs) zero x is = record { front = []; back = xs; whole = ap (λ z. z ∷ xs) (same_Some y x is) }
around_place (y ∷ xs) (suc i) x is =
    let rest = around_place xs i x is in
    record { front = y ∷ rest.front; back = rest.back; whole = ap (λ zs. y ∷ zs) rest.whole }
