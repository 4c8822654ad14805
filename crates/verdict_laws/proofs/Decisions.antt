-- What is decided: a statement that holds or doesn't, from its parts.
use Rattle.verdict_laws.proofs.Common.{◌≡◌, ℕ, zero, suc, ◌<◌, ◌≤◌, Bool, true, false, ◌⊎◌, inl, inr, List, [], ◌∷◌, Some, refl, sym, subst, arith, AllByRecursion, slice_get, cases_lt, false≢true, none-some, same_Some}
use Rattle.std.proofs.Common.{ap₂}
use Rattle.std.proofs.lemmas.Bool.{cases_eq}

-- it holds, or it fails
abbrev pub Decided : Type 0 → Type 0
Decided P = P ⊎ ¬ P

-- what says the same is decided with it
pub decided_as : {P Q : Type 0} → (P → Q) → (Q → P) → Decided P → Decided Q
decided_as there back (inl holds) = inl (there holds)
decided_as there back (inr fails) = inr (λ q. fails (back q))

-- what can't fail holds
pub holds_surely : {P : Type 0} → Decided P → ¬ ¬ P → P
holds_surely (inl holds) sure = holds
holds_surely (inr fails) sure = absurd (sure fails)

-- a denial
pub decided_not : {P : Type 0} → Decided P → Decided (¬ P)
decided_not (inl holds) = inr (λ fails. fails holds)
decided_not (inr fails) = inl fails

-- two statements
pub decided_both : {P Q : Type 0} → Decided P → Decided Q → Decided (P × Q)
decided_both (inl p) (inl q) = inl (p, q)
decided_both (inl p) (inr fails) = inr (λ both. fails both.1)
decided_both (inr fails) other = inr (λ both. fails both.0)

-- ---- numbers, tests and lists

-- an order of numbers
pub decided_lt : (m n : ℕ) → Decided (m < n)
decided_lt m n = elim (cases_lt m n) [ inl below ↦ inl below | inr above ↦ inr (λ below. omega (arith, above, below)) ]

-- the same, or equal
pub decided_le : (m n : ℕ) → Decided (m ≤ n)
decided_le m n = elim (cases_lt n m) [ inl above ↦ inr (λ below. omega (arith, above, below)) | inr below ↦ inl below ]

-- a test
pub decided_true : (test : Bool) → Decided (test ≡ true)
decided_true true = inl refl
decided_true false = inr false≢true

-- whether two lists are one
pub decided_same : (xs ys : List ℕ) → Decided (xs ≡ ys)
decided_same [] [] = inl refl
decided_same [] (y ∷ ys) = inr (λ same. cc)
decided_same (x ∷ xs) [] = inr (λ same. cc)
decided_same (x ∷ xs) (y ∷ ys) =
    decided_as (λ (both : (x ≡ y) × (xs ≡ ys)). ap₂ (λ (h : ℕ) (t : List ℕ). h ∷ t) both.0 both.1) (λ same. (cc, cc))
    (decided_both (cases_eq x y) (decided_same xs ys))

-- what holds of each element
pub decided_each : {X : Type 0} (P : X → Type 0) → ((x : X) → Decided (P x)) → (xs : List X) → Decided (AllByRecursion P xs)
decided_each P each [] = inl tt
decided_each P each (x ∷ xs) = decided_both (each x) (decided_each P each xs)

-- what holds of some element
abbrev pub HasOne : {X : Type 0} → (X → Type 0) → List X → Type 0
HasOne {X} P xs = (i : ℕ) × (x : X) × (slice_get xs i ≡ Some x) × P x

-- neither the first element nor a later one
not-HasOne : {X : Type 0} (P : X → Type 0) (first : X) (xs : List X) → ¬ P first → ¬ HasOne P xs
    → (i : ℕ) (x : X) → slice_get (first ∷ xs) i ≡ Some x → P x → ⊥
not-HasOne P first xs here later zero x is holds = here (subst P (sym (same_Some first x is)) holds)
not-HasOne P first xs here later (suc i) x is holds = later (i, x, is, holds)

-- one element more in front
HasOne-cons : {X : Type 0} (P : X → Type 0) (first : X) (xs : List X) → Decided (P first) → Decided (HasOne P xs) → Decided (HasOne P (first ∷ xs))
HasOne-cons P first xs (inl holds) later = inl (0, first, refl, holds)
HasOne-cons P first xs (inr fails) (inl later) = inl (suc later.0, later.1, later.2, later.3)
HasOne-cons P first xs (inr fails) (inr later) = inr (λ found. not-HasOne P first xs fails later found.0 found.1 found.2 found.3)

-- whether some element is such a one
pub decided_one : {X : Type 0} (P : X → Type 0) → ((x : X) → Decided (P x)) → (xs : List X) → Decided (HasOne P xs)
decided_one P each [] = inr (λ found. none-some found.1 found.2)
decided_one P each (x ∷ xs) = HasOne-cons P x xs (each x) (decided_one P each xs)

-- ---- the first number below a bound

pub record IsFirst (P : ℕ → Type 0) (bound : ℕ) : Type 0 where
  pub at : ℕ
  pub within : at < bound
  pub holds : P at
  pub none_before : (n : ℕ) → n < at → ¬ P n

-- one number more
first_below-suc : (P : ℕ → Type 0) (bound : ℕ) → Decided (P bound) → IsFirst P bound ⊎ ((n : ℕ) → n < bound → ¬ P n)
    → IsFirst P (suc bound) ⊎ ((n : ℕ) → n < suc bound → ¬ P n)
first_below-suc P bound here (inl found) =
    inl (record { at = found.at; within = omega (arith, found.within); holds = found.holds; none_before = found.none_before })
first_below-suc P bound (inl holds) (inr none) = inl (record { at = bound; within = omega arith; holds = holds; none_before = none })
first_below-suc P bound (inr fails) (inr none) = inr (λ n within. elim (cases_eq n bound) [
  | inl same ↦ subst (λ (k : ℕ). ¬ P k) (sym same) fails
  | inr other ↦ none n (omega (arith, within, other))
])

-- the first number below the bound that is such a one, or there is none
pub first_below : (P : ℕ → Type 0) → ((n : ℕ) → Decided (P n)) → (bound : ℕ) → IsFirst P bound ⊎ ((n : ℕ) → n < bound → ¬ P n)
first_below P each zero = inr (λ n within. absurd (omega (arith, within)))
first_below P each (suc bound) = first_below-suc P bound (each bound) (first_below P each bound)
