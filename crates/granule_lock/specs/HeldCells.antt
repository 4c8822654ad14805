-- What contracts see of the granules of a machine and of what a CPU holds. This project's own.
use Rattle.std.specs.Prelude.{◌≡◌, ℕ, ◌-◌, List, [], length, slice_get, IsTrue, Option, Some, None}
use Rattle.rmm_spec.specs.Local.{HeldCell, granules_held}
use Rattle.command_core.specs.Pairs.{pair_cells, pairs-distinct}
use Rattle.command_core.specs.Seen.{are_distinct}
use Rattle.granule_lock.specs.declared.hold.Freed.{Freed}
use Rattle.granule_lock.specs.declared.hold.Hold.{Hold}

-- how many granules there are
pub record GranulesView : Type 0 where
  pub granules : ℕ

abbrev pub hold_cells : Hold → List HeldCell
hold_cells hold = pair_cells hold.pairs

abbrev pub cells_of : Freed → List HeldCell
cells_of freed = pair_cells freed.pairs.value

abbrev pub cells_freed : Option Freed → List HeldCell
cells_freed None = []
cells_freed (Some freed) = cells_of freed

-- what was held as freeing began
abbrev pub freed_cells : Hold → List HeldCell
freed_cells hold = cells_freed hold.freed

-- the granule is the last that was taken of those that are held
abbrev pub IsLastHeld : ℕ → List HeldCell → Type 0
IsLastHeld granule held = slice_get (granules_held held) (length (granules_held held) - 1) ≡ Some granule

pub hold-distinct : (h : Hold) → IsTrue (are_distinct (granules_held (hold_cells h)))
hold-distinct h = pairs-distinct h.pairs
