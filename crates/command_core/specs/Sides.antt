-- The side table that a monitor's own value stands for, and what it tells.
use Rattle.std.specs.Prelude.{ℕ, Bool, false, not, ◌==◌, Option, Some, None, is_some}
use Rattle.rmm_spec.specs.Shape.{Side}
unfoldable pub use Rattle.granule_cells.specs.Sides.{side_of}

-- whether a realm has the VMID
abbrev pub is_vmid_listed : Side → ℕ → Bool
is_vmid_listed side vmid = is_some (side.vmids vmid)

-- whether a REC belongs to the realm
abbrev pub are_recs_counted : Side → ℕ → Bool
are_recs_counted side rd = not (side.rec_counts rd == 0)

-- without the side table neither is told
abbrev pub are_vmids_told : Option Side → ℕ → Bool
are_vmids_told None = λ vmid. false
are_vmids_told (Some side) = is_vmid_listed side

abbrev pub are_recs_told : Option Side → ℕ → Bool
are_recs_told None = λ rd. false
are_recs_told (Some side) = are_recs_counted side
