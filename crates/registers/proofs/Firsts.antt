-- What holds of the first elements of a list.
use Rattle.std.proofs.Common.{◌≡◌, ℕ, ◌+◌, ◌<◌, ◌≤◌, List, length, Some, ◌∙◌, sym, subst, arith, inl, inr}
use Rattle.std.specs.List.{slice_get}
use Rattle.std.proofs.lemmas.Bool.{cases_lt}
use Rattle.std.proofs.lemmas.Option.{same_Some, slice_get_within}

-- it holds of each of the first so many
abbrev pub OfFirst : {X : Type 0} → (X → Type 0) → List X → ℕ → Type 0
OfFirst P all count = (i : ℕ) (x : _) → i < count → slice_get all i ≡ Some x → P x

-- of one more
pub OfFirst-next : {X : Type 0} (P : X → Type 0) (all : List X) (count : ℕ) (last : X) → slice_get all count ≡ Some last
    → OfFirst P all count → P last → OfFirst P all (count + 1)
OfFirst-next P all count last is first of_last i x below at = elim (cases_lt i count) [
  | inl before ↦ first i x before at
  | inr after ↦ subst P (same_Some last x (sym is ∙ subst (λ (j : ℕ). slice_get all j ≡ Some x) (omega (arith, below, after)) at)) of_last
]

-- of all
pub OfFirst-all : {X : Type 0} (P : X → Type 0) (all : List X) (count : ℕ) → length all ≤ count → OfFirst P all count
    → (x : X) (i : ℕ) → slice_get all i ≡ Some x → P x
OfFirst-all P all count whole first x i at = first i x (omega (arith, whole, slice_get_within all i x at)) at

-- what follows from it
pub OfFirst-weaker : {X : Type 0} (P Q : X → Type 0) (all : List X) (count : ℕ) → ((x : X) → P x → Q x) → OfFirst P all count → OfFirst Q all count
OfFirst-weaker P Q all count follows first i x below at = follows x (first i x below at)
