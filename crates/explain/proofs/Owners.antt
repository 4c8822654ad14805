-- The row of a granule in a report of owners.
use Rattle.explain.proofs.Common.{◌*◌, ◌++◌, ◌<◌, ◌∙◌, ◌∷◌, ◌≡◌, IsTrue, List, None, Option, Some, State, [], ap, arith, cases_lt, false, inl, inr, length, slice_get, slice_get_within, subst, suc, sym, zero, ℕ}
use Rattle.std.proofs.Common.{◌/◌, ◌%◌}
use Rattle.std.proofs.lemmas.Bool.{false_from_ne_true}
use Rattle.std.proofs.lemmas.Option.{none-some, same_Some}
use Rattle.rmm_spec.specs.Lookup.{is_granule}
use Rattle.reasons.specs.declared.owner_rows.OwnerRow.{OwnerRow}
use Rattle.reasons.specs.Report.{AddsOwners, owner_rows}
use Rattle.spec_machine.proofs.Kept.{granule_placed, place-granule}
use Rattle.lemmas.proofs.Elements.{slice_get-append, slice_get-push}
use Rattle.spec_lemmas.proofs.Lookups.{granule-within}
use Rattle.reasons.proofs.OwnerRows.{length-owner_rows}

-- the row of a place
abbrev pub owner_row : State → (ℕ → Option ℕ) → ℕ → OwnerRow
owner_row s owner k = record { granule = k * 4096; tag = s.tag (k * 4096); realm = owner (k * 4096) }

-- a report has the row of each place
pub slice_get-owner_rows : (s : State) (owner : ℕ → Option ℕ) (n k : ℕ) → k < n → slice_get (owner_rows s owner n) k ≡ Some (owner_row s owner k)
unfolding owner_rows
slice_get-owner_rows s owner zero k within = absurd (let bad : ⊥ = omega (arith, within) in bad)
slice_get-owner_rows s owner (suc n) k within = elim (cases_lt k n) [
  | inl before ↦
      slice_get-append (owner_rows s owner n) (owner_row s owner n ∷ []) k (owner_row s owner k) (slice_get-owner_rows s owner n k before)
  | inr after ↦
      let same : n ≡ k = omega (arith, within, after) in
      let place : length (owner_rows s owner n) ≡ k = length-owner_rows s owner n ∙ same in
      subst (λ (x : ℕ). slice_get (owner_rows s owner n ++ (owner_row s owner n ∷ [])) x ≡ Some (owner_row s owner k)) place
      (slice_get-push (owner_rows s owner n) (owner_row s owner n) ∙ ap (λ (x : ℕ). Some (owner_row s owner x)) same)
]

-- a row is that of its place
pub is_row-owner_rows : (s : State) (rows : List OwnerRow) (k : ℕ) (row : OwnerRow) (report : AddsOwners s [] rows)
    → slice_get rows k ≡ Some row → (k < s.config.granules) × (owner_row s report.0 k ≡ row)
is_row-owner_rows s rows k row report is_row =
    let owner = report.0 in
    let rows_are : rows ≡ owner_rows s owner s.config.granules = report.2 in
    let counted : length rows ≡ s.config.granules = ap (λ (xs : List OwnerRow). length xs) rows_are ∙ length-owner_rows s owner s.config.granules in
    let within : k < s.config.granules = omega (arith, slice_get_within rows k row is_row, counted) in
    let here : Some (owner_row s owner k) ≡ Some row =
    sym (slice_get-owner_rows s owner s.config.granules k within) ∙ ap (λ (xs : List OwnerRow). slice_get xs k) (sym rows_are) ∙ is_row in
    (within, same_Some (owner_row s owner k) row here)

-- a granule's row has its tag
pub tag-owner_rows : (s : State) (rows : List OwnerRow) (granule : ℕ) (row : OwnerRow) → AddsOwners s [] rows → granule % 4096 ≡ 0
    → slice_get rows (granule / 4096) ≡ Some row → IsTrue (is_granule s.config.granules granule) × (s.tag granule ≡ row.tag)
tag-owner_rows s rows granule row report aligned is_row =
    let place = granule / 4096 in
    let here = is_row-owner_rows s rows place row report is_row in
    let at : place * 4096 ≡ granule = omega (arith, aligned) in (
      subst (λ (g : ℕ). IsTrue (is_granule s.config.granules g)) at (granule_placed s.config.granules place here.0),
      ap s.tag (sym at) ∙ ap (λ (r : OwnerRow). r.tag) here.1,
    )

-- what has no row is no granule
pub is_granule-no_row : (s : State) (rows : List OwnerRow) (granule : ℕ) → AddsOwners s [] rows
    → (granule % 4096 ≡ 0 → slice_get rows (granule / 4096) ≡ None) → is_granule s.config.granules granule ≡ false
is_granule-no_row s rows granule report none = false_from_ne_true (is_granule s.config.granules granule) (λ is_true.
    let place = granule / 4096 in
    let owner = report.0 in
    let rows_are : rows ≡ owner_rows s owner s.config.granules = report.2 in
    let at : place * 4096 ≡ granule = place-granule s.config.granules granule is_true in
    let aligned : granule % 4096 ≡ 0 = omega (arith, at) in
    let here = slice_get-owner_rows s owner s.config.granules place (granule-within s.config.granules granule is_true) in
    none-some (owner_row s owner place) (sym (none aligned) ∙ ap (λ (xs : List OwnerRow). slice_get xs place) rows_are ∙ here))
