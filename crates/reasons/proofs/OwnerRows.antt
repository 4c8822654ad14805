-- A report has a row for each granule.
use Rattle.reasons.proofs.Common.{◌*◌, ◌++◌, ◌+◌, ◌<◌, ◌==◌, ◌∙◌, ◌∷◌, ◌≡◌, Bool, List, Option, State, [], ap, append_assoc, arith, eqb-false, eqb-true, false, length, owner_rows, refl, slice_index_or, subst, suc, sym, true, zero, ℕ}
use Rattle.std.proofs.lemmas.List.{get_or_append_left, length-append}
use Rattle.std.proofs.Math.Seq.{get_or-append_seam}
use Rattle.reasons.specs.declared.owner_rows.OwnerRow.{OwnerRow}

abbrev pub row_of : State → (ℕ → Option ℕ) → ℕ → OwnerRow
row_of s owner k = record { granule = k * 4096; tag = s.tag (k * 4096); realm = owner (k * 4096) }

-- one row more
pub owner_rows-push : (s : State) (owner : ℕ → Option ℕ) (old rows : List OwnerRow) (k : ℕ) (row : OwnerRow) → rows ≡ old ++ owner_rows s owner k
    → row ≡ row_of s owner k → rows ++ row ∷ [] ≡ old ++ owner_rows s owner (k + 1)
unfolding owner_rows
owner_rows-push s owner old rows k row before is =
    let next : suc k ≡ k + 1 = omega arith in
    subst (λ n. rows ++ row ∷ [] ≡ old ++ owner_rows s owner n) next
    (ap (λ (rs : List OwnerRow). rs ++ row ∷ []) before ∙ append_assoc old (owner_rows s owner k) (row ∷ [])
    ∙ ap (λ (r : OwnerRow). old ++ (owner_rows s owner k ++ (r ∷ []))) is)

pub length-owner_rows : (s : State) (owner : ℕ → Option ℕ) (n : ℕ) → length (owner_rows s owner n) ≡ n
unfolding owner_rows
length-owner_rows s owner zero = refl
length-owner_rows s owner (suc n) =
    let both = length-append (owner_rows s owner n) (row_of s owner n ∷ []) in
    omega (arith, both, length-owner_rows s owner n)

-- the row of a granule
pub get_or-owner_rows : (s : State) (owner : ℕ → Option ℕ) (n k : ℕ) (default : OwnerRow)
    → k < n → slice_index_or (owner_rows s owner n) k default ≡ row_of s owner k
unfolding owner_rows
get_or-owner_rows s owner zero k default within = absurd (omega (arith, within))
get_or-owner_rows s owner (suc n) k default within = by (λ below. get_or-owner_rows s owner n k default below) (n == k) refl
  where
    by : (k < n → slice_index_or (owner_rows s owner n) k default ≡ row_of s owner k) → (b : Bool) → (n == k) ≡ b
        → slice_index_or (owner_rows s owner n ++ row_of s owner n ∷ []) k default ≡ row_of s owner k
    by earlier true same =
        let here = eqb-true n k same in
        ap (λ i. slice_index_or (owner_rows s owner n ++ row_of s owner n ∷ []) i default) (sym here ∙ sym (length-owner_rows s owner n))
        ∙ get_or-append_seam (owner_rows s owner n) (row_of s owner n) [] default ∙ ap (row_of s owner) here
    by earlier false apart =
        let below : k < n = omega (arith, within, eqb-false n k apart) in
        get_or_append_left (owner_rows s owner n) (row_of s owner n ∷ []) default k (omega (arith, below, length-owner_rows s owner n))
        ∙ earlier below
