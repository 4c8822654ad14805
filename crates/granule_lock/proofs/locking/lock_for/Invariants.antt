use Rattle.rmm_spec.specs.Call.{call_of}
use Rattle.command_core.specs.Seen.{place_of}
use Rattle.granule_lock.specs.HeldCells.{hold_cells}
use Rattle.granule_lock.specs.Locked.{AreGranules, IsReached, locking}
use Rattle.granule_lock.proofs.locking.lock_for.Given as goal

abbrev pub invariant-loop-step : goal.invariant-loop-step
invariant-loop-step g l = record {
  granules : AreGranules l.granules.granules (hold_cells l.hold);
  planned : IsReached l.config (call_of l.command) (place_of l.place) (locking (hold_cells l.hold) l.learnt);
}
