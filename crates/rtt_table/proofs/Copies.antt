-- Whether a list is copies of one kind, told along the list, and what a search through such a list finds.
use Rattle.std.proofs.Common.{◌≡◌, ℕ, zero, suc, ◌+◌, ◌<◌, ◌↔◌, Bool, false, ◌&&◌, IsTrue, List, [], ◌∷◌, take, length, get_or, refl, ap, ◌∙◌, add-one, arith}
use Rattle.std.specs.List.{All, list_any}
use Rattle.std.proofs.lemmas.Bool.{or_from, and_from, and_parts}
use Rattle.rtt_table.specs.declared.kind.Kind.{Kind}

module _ (same : Kind) where
  abbrev AreCopies : List Kind → Type 0
  AreCopies kinds = All (λ k. k ≡ same) kinds

  cons : (k : Kind) (kinds : List Kind) → k ≡ same → AreCopies kinds → AreCopies (k ∷ kinds)
  cons k kinds is rest zero d below = is
  cons k kinds is rest (suc n) d below = rest n d (omega (arith, below))

  tail : (k : Kind) (kinds : List Kind) → AreCopies (k ∷ kinds) → AreCopies kinds
  tail k kinds all = λ n d below. all (suc n) d (omega (arith, below))

  more : (kinds : List Kind) (i : ℕ) (x : Kind)
      → i < length kinds → AreCopies (take i kinds) → get_or kinds i x ≡ same → AreCopies (take (suc i) kinds)
  more [] i x within all here = absurd (omega (arith, within))
  more (k ∷ kinds) zero x within all here = cons k [] here (λ n d below. absurd (omega (arith, below)))
  more (k ∷ kinds) (suc i) x within all here =
      cons k (take (suc i) kinds) (all 0 x (omega arith)) (more kinds i x (omega (arith, within)) (tail k (take i kinds) all) here)

  less : (kinds : List Kind) (i : ℕ) (x : Kind)
      → i < length kinds → AreCopies (take (suc i) kinds) → AreCopies (take i kinds) × (get_or kinds i x ≡ same)
  less [] i x within all = absurd (omega (arith, within))
  less (k ∷ kinds) zero x within all = (λ n d below. absurd (omega (arith, below)), all 0 x (omega arith))
  less (k ∷ kinds) (suc i) x within all =
      let rest = less kinds i x (omega (arith, within)) (tail k (take (suc i) kinds) all) in
      (cons k (take i kinds) (all 0 x (omega arith)) rest.0, rest.1)

  -- the first are copies with the next one just where they are and it is
  pub all_more : (kinds : List Kind) (i : ℕ) (x : Kind) (are is : Bool) → i < length kinds → (IsTrue are ↔ AreCopies (take i kinds))
      → (IsTrue is ↔ (get_or kinds i x ≡ same)) → IsTrue (are && is) ↔ AreCopies (take (i + 1) kinds)
  all_more kinds i x are is within before here =
      rw (add-one i) (
        (λ holds. let parts = and_parts are is holds in more kinds i x within (before.0 parts.0) (here.0 parts.1)),
        (λ all. let parts = less kinds i x within all in and_from are is (before.1 parts.0) (here.1 parts.1)),
      )

  -- where a test fails at the kind, no copy of it passes
  pub none_of_copies : (p : Kind → Bool) → p same ≡ false → (kinds : List Kind) → AreCopies kinds → list_any p kinds ≡ false
  none_of_copies p fails [] all = refl
  none_of_copies p fails (k ∷ kinds) all =
      or_from (p k) (list_any p kinds) (ap p (all 0 k (omega arith)) ∙ fails) (none_of_copies p fails kinds (tail k kinds all))
