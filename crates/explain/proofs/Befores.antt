-- What is told of several granules.
use Rattle.explain.proofs.Common.{◌*◌, ◌++◌, ◌∙◌, ◌∷◌, ◌≡◌, IsTrue, List, None, Option, Some, State, [], ap, arith, refl, slice_get, subst, sym, ℕ}
use Rattle.std.proofs.Common.{◌/◌, ◌%◌}
use Rattle.std.specs.Prelude.{MatchOption}
use Rattle.std.proofs.lemmas.Option.{none-some}
use Rattle.rmm_spec.specs.declared.tag.Tag.{Tag}
use Rattle.rmm_spec.specs.Lookup.{is_granule}
use Rattle.rmm_spec.specs.Ownership.{IsTied}
use Rattle.reasons.specs.declared.owner_rows.OwnerRow.{OwnerRow}
use Rattle.reasons.specs.Report.{AddsOwners, IsOwnerOf}
use Rattle.explain.proofs.Owners.{is_row-owner_rows}
use Rattle.rmm_spec.specs.Rows.{Needed}
use Rattle.reasons.specs.declared.before.GranuleBefore.{GranuleBefore}
use Rattle.explain.specs.Before.{AreGranulesBefore, IsGranuleBefore}
use Rattle.explain.specs.Facts.{IsFound}

-- one more
pub granules_next : (s : State) (names : List Needed) (told : List GranuleBefore)
    (name : Needed) (last : GranuleBefore) → AreGranulesBefore s names told
    → IsGranuleBefore s name.granule last → AreGranulesBefore s (names ++ name ∷ []) (told ++ last ∷ [])
granules_next s [] [] name last are is = (is, tt)
granules_next s [] (other ∷ told) name last are is = absurd are
granules_next s (first ∷ names) [] name last are is = absurd are
granules_next s (first ∷ names) (other ∷ told) name last are is = (are.0, granules_next s names told name last are.1 is)

-- whose a granule is
abbrev pub Told : State → ℕ → Option ℕ → Type 0
Told s granule found = MatchOption found (IsTrue (is_granule s.config.granules granule) → (realm : ℕ) → ¬ IsTied (s.tag granule) s granule realm)
    (λ realm. IsTied (s.tag granule) s granule realm)

told_by : (s : State) (owner : ℕ → Option ℕ) (granule : ℕ) (found : Option ℕ) → IsOwnerOf s owner → owner granule ≡ found → Told s granule found
told_by s owner granule None owns is = λ is_true realm tied. none-some realm (sym is ∙ (owns granule realm).1 tied)
told_by s owner granule (Some realm) owns is = (owns granule realm).0 is

-- as its row says
pub owner_told : (s : State) (rows : List OwnerRow) (granule : ℕ) (row : OwnerRow) → AddsOwners s [] rows → granule % 4096 ≡ 0
    → slice_get rows (granule / 4096) ≡ Some row → Told s granule row.realm
owner_told s rows granule row report aligned is_row =
    let at : granule / 4096 * 4096 ≡ granule = omega (arith, aligned) in
    let here = (is_row-owner_rows s rows (granule / 4096) row report is_row).1 in
    told_by s report.0 granule row.realm report.1 (ap report.0 (sym at) ∙ ap (λ (r : OwnerRow). r.realm) here)

-- at an address that is the same
pub granule_by : (s : State) (inside at : ℕ) (tag : Option Tag) (rd : Option ℕ) → inside ≡ at → IsFound s inside tag → Told s inside rd
    → IsGranuleBefore s at (record { granule = inside; tag = tag; rd = rd })
granule_by s inside at tag rd same is whose =
    subst (λ (g : ℕ). IsGranuleBefore s g (record { granule = inside; tag = tag; rd = rd })) same (record { granule = refl; tag = is; owner = whose })
