use Rattle.std.proofs.Common.{rules, subst}
use Rattle.rmm_spec.specs.declared.call.Call.{Call}
use Rattle.command_core.specs.Seen.{place_of}
use Rattle.granule_lock.specs.HeldCells.{hold_cells}
use Rattle.granule_lock.specs.Locked.{IsPlannedStep, locking}
use Rattle.granule_lock.proofs.PlannedSteps.{reached-none, reached-push}
use Rattle.granule_lock.proofs.locking.lock_for.Goals as goal

pub loop-step-init : goal.loop-step-init
loop-step-init g c = record {
  granules = search rules;
  planned = reached-none _ _ _ (hold_cells c.args.hold.now) c.requires.none;
}

pub loop-step-preserved : goal.loop-step-preserved
loop-step-preserved g c = record {
  granules = c.goes_on.ensures.granules;
  planned = reached-push _ _ _ (locking (hold_cells c.loop-step.hold) c.loop-step.learnt)
      (locking (hold_cells c.goes_on.new.hold) c.goes_on.new.learnt)
      c.loop-step.invariant.planned
      (subst (λ (x : Call). IsPlannedStep c.args.config.now x (place_of c.args.place.now) (locking (hold_cells c.loop-step.hold) c.loop-step.learnt)
      (locking (hold_cells c.goes_on.new.hold) c.goes_on.new.learnt)) c.call-call.ensures (c.goes_on.ensures.planned (search rules)));
}
