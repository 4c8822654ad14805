use Rattle.std.proofs.Common.{◌≡◌, length}
use Rattle.granule_lock.specs.HeldCells.{freed_cells, hold_cells}
use Rattle.granule_lock.specs.Locked.{AreGranules}
use Rattle.granule_lock.proofs.locking.free_all.Given as goal

abbrev pub invariant-loop-last : goal.invariant-loop-last
invariant-loop-last g l = AreGranules l.granules.granules (hold_cells l.hold) × (freed_cells l.hold ≡ hold_cells l.fn.hold)

abbrev pub decreases-loop-last : goal.decreases-loop-last
decreases-loop-last g l = length (hold_cells l.hold)
