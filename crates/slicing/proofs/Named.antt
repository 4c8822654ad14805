-- What holds of each granule that is needed holds of each that is named.
use Rattle.std.proofs.Common.{◌≡◌, ◌==◌, ℕ, true, All, List, subst}
use Rattle.std.proofs.lemmas.Bool.{eqb-true}
use Rattle.std.proofs.lemmas.List.Elements.{All-contains}
use Rattle.rmm_spec.specs.Locks.{is_named}
use Rattle.rmm_spec.specs.Rows.{Needed}
use Rattle.spec_lemmas.proofs.Members.{Contains-from_slice_get, passing_member}

-- what holds of each granule of a list holds of one that is named there
pub All-named : (P : ℕ → Type 0) (names : List Needed) → All (λ (n : Needed). P n.granule) names → (granule : ℕ)
    → is_named names granule ≡ true → P granule
All-named P names each granule is =
    let found = passing_member (λ (n : Needed). n.granule == granule) names is in
    subst P (eqb-true found.1.granule granule found.3)
    (All-contains (λ (n : Needed). P n.granule) names found.1 each (Contains-from_slice_get names found.0 found.1 found.2))
