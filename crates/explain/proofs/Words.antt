-- Words by their places, and the word for a hash.
use Rattle.explain.proofs.Common.{◌<◌, ◌∙◌, ◌∷◌, ◌≡◌, ◌≤◌, List, None, [], ap, arith, cases_lt, false, inl, inr, length, nat_tests, refl, slice_get, suc, sym, zero, ℕ}
use Rattle.std.proofs.Common.{nat_le}
use Rattle.std.proofs.lemmas.Option.{none-some, same_Some}
use Rattle.rmm_spec.specs.declared.version.Version.{Version}
use Rattle.rmm_spec.specs.declared.version.Version.TheVariants.{One, Two, Large}
use Rattle.rmm_spec.specs.Lookup.{allows_hash}
use Rattle.explain.specs.Facts.{last_hash}

pub slice_get-past : {X : Type 0} (xs : List X) (i : ℕ) → length xs ≤ i → slice_get xs i ≡ None
slice_get-past [] i past = refl
slice_get-past (x ∷ xs) zero past = absurd (let bad : ⊥ = omega (arith, past) in bad)
slice_get-past (x ∷ xs) (suc i) past = slice_get-past xs i (omega (arith, past))

-- lists that have the same at each place are the same
pub same_list : {X : Type 0} (xs ys : List X) → ((i : ℕ) → slice_get xs i ≡ slice_get ys i) → xs ≡ ys
same_list [] [] all = refl
same_list [] (y ∷ ys) all = absurd (none-some y (all 0))
same_list (x ∷ xs) [] all = absurd (none-some x (sym (all 0)))
same_list (x ∷ xs) (y ∷ ys) all =
    ap (λ z. z ∷ xs) (same_Some x y (all 0)) ∙ ap (λ zs. y ∷ zs) (same_list xs ys (λ i. all (suc i)))

-- short lists that have the same at the first places are the same
pub same_short : {X : Type 0} (n : ℕ) (xs ys : List X) → length xs ≤ n → length ys ≤ n → ((i : ℕ) → i < n → slice_get xs i ≡ slice_get ys i) → xs ≡ ys
same_short n xs ys few little all = same_list xs ys (λ i. elim (cases_lt i n) [
  | inl below ↦ all i below
  | inr past ↦ slice_get-past xs i (omega (arith, past, few)) ∙ sym (slice_get-past ys i (omega (arith, past, little)))
])

-- a word that stands for no hash of the version is past its last
pub past-last_hash : (version : Version) (algo : ℕ) → allows_hash version algo ≡ false → nat_le algo (last_hash version) ≡ false
past-last_hash One algo none = grind (arith, nat_tests, none)
past-last_hash Two algo none = grind (arith, nat_tests, none)
past-last_hash Large algo none = grind (arith, nat_tests, none)
