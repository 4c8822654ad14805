-- What a report of owners tells of a state.
use Rattle.std.specs.Prelude.{◌≡◌, ℕ, zero, suc, ◌*◌, List, [], ◌∷◌, ◌++◌, Option, Some, ◌↔◌}
use Rattle.rmm_spec.specs.Ownership.{IsTied}
use Rattle.rmm_spec.specs.State.{State}
use Rattle.reasons.specs.declared.owner_rows.OwnerRow.{OwnerRow}

-- a granule's owner is the realm to which the state ties it in the role of its tag
abbrev pub IsOwnerOf : State → (ℕ → Option ℕ) → Type 0
IsOwnerOf s owner = (granule realm : ℕ) → (owner granule ≡ Some realm) ↔ IsTied (s.tag granule) s granule realm

-- a row for each of the first granules, in the order of addresses
unfoldable pub owner_rows : State → (ℕ → Option ℕ) → ℕ → List OwnerRow
owner_rows s owner zero = []
owner_rows s owner (suc k) =
    owner_rows s owner k ++ (record { granule = k * 4096; tag = s.tag (k * 4096); realm = owner (k * 4096) } ∷ [])

-- the rows of all granules come after the old ones
abbrev pub AddsOwners : State → List OwnerRow → List OwnerRow → Type 0
AddsOwners s old new = (owner : ℕ → Option ℕ) × IsOwnerOf s owner × (new ≡ old ++ owner_rows s owner s.config.granules)
