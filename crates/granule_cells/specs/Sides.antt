-- The side table that a monitor's own value stands for.
use Rattle.std.specs.Prelude.{ℕ, ◌/◌, ◌%◌, ◌==◌, if◌then◌else◌, List, Option, Some, None, slice_get, slice_index}
use Rattle.rmm_spec.specs.Cell.{put}
use Rattle.rmm_spec.specs.Shape as shape
use Rattle.granule_cells.specs.declared.side.Side.{Side}

-- what is listed at a place, and nothing past the last
abbrev pub listed_at : Option (Option ℕ) → Option ℕ
listed_at None = None
listed_at (Some listed) = listed

-- how many are counted at a granule's address
abbrev pub counted_at : List ℕ → ℕ → ℕ
counted_at counts rd = if rd % 4096 == 0 then slice_index counts (rd / 4096) else 0

unfoldable pub side_of : Side → shape.Side
side_of side = record {
  vmids = λ vmid. listed_at (slice_get side.vmids.items vmid);
  rec_counts = counted_at side.rec_counts.items;
}

-- the side table with another realm, or none, at a VMID
abbrev pub with_vmid : shape.Side → ℕ → Option ℕ → shape.Side
with_vmid side vmid realm = record side { vmids = put side.vmids vmid realm }

-- with another count of a realm's RECs
abbrev pub with_count : shape.Side → ℕ → ℕ → shape.Side
with_count side rd count = record side { rec_counts = put side.rec_counts rd count }
