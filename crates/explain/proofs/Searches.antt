-- What a loop over numbers, or over the granules of a report, has found so far.
use Rattle.explain.proofs.Common.{◌*◌, ◌+◌, ◌∙◌, ◌≡◌, ◌≤◌, Bool, List, Some, State, [], ap, arith, false, length, refl, slice_get, subst, suc, sym, ℕ}
use Rattle.rmm_spec.specs.Lookup.{any_below}
use Rattle.reasons.specs.declared.owner_rows.OwnerRow.{OwnerRow}
use Rattle.reasons.specs.Report.{AddsOwners}
use Rattle.explain.proofs.Owners.{is_row-owner_rows}
use Rattle.reasons.proofs.OwnerRows.{length-owner_rows}

-- none passes, with one more that doesn't
pub none_next : (n : ℕ) (p : ℕ → Bool) → p n ≡ false → any_below n p ≡ false → any_below (n + 1) p ≡ false
none_next n p here below = let e : n + 1 ≡ suc n = omega arith in rw e (rw (here, below) refl)

-- none passes once all were looked at
pub none_all : (n count : ℕ) (p : ℕ → Bool) → n ≡ count → any_below n p ≡ false → any_below count p ≡ false
none_all n count p all none = ap (λ (k : ℕ). any_below k p) (sym all) ∙ none

-- a report has a row for each granule
pub length-report : (s : State) (rows : List OwnerRow) → AddsOwners s [] rows → length rows ≡ s.config.granules
length-report s rows report = ap (λ (xs : List OwnerRow). length xs) report.2 ∙ length-owner_rows s report.0 s.config.granules

-- of its place
pub granule-row : (s : State) (rows : List OwnerRow) (k : ℕ) (row : OwnerRow)
    → AddsOwners s [] rows → slice_get rows k ≡ Some row → row.granule ≡ k * 4096
granule-row s rows k row report is_row = sym (ap (λ (r : OwnerRow). r.granule) (is_row-owner_rows s rows k row report is_row).1)

-- none of the granules of the rows so far passes, with that of one row more
pub none_next_row : (s : State) (rows : List OwnerRow) (p : ℕ → Bool) (i granule : ℕ) (row : OwnerRow)
    → AddsOwners s [] rows → slice_get rows i ≡ Some row
    → granule ≡ row.granule → p granule ≡ false → any_below i (λ k. p (k * 4096)) ≡ false → any_below (i + 1) (λ k. p (k * 4096)) ≡ false
none_next_row s rows p i granule row report is_row same here below =
    none_next i (λ k. p (k * 4096)) (subst (λ (g : ℕ). p g ≡ false) (same ∙ granule-row s rows i row report is_row) here) below

-- so where none of the rows' granules passes, none does
pub none_of_rows : (s : State) (rows : List OwnerRow) (n : ℕ) (p : ℕ → Bool) → AddsOwners s [] rows → length rows ≤ n → n ≤ length rows
    → any_below n p ≡ false → any_below s.config.granules p ≡ false
none_of_rows s rows n p report least most none =
    none_all n s.config.granules p (let all : n ≡ length rows = omega (arith, least, most) in all ∙ length-report s rows report) none
