use Rattle.std.proofs.Common.{length, arith, sym, ap, ◌∙◌, subst}
use Rattle.granule_lock.specs.HeldCells.{hold_cells}
use Rattle.granule_lock.specs.Locked.{AreGranules}
use Rattle.granule_lock.proofs.HeldGranules.{granule-held, granules-without, length-without}
use Rattle.granule_lock.proofs.locking.free_all.Goals as goal

pub loop-last-init : goal.loop-last-init
loop-last-init g c = (
  subst (AreGranules c.args.granules.now.granules) (sym c.begin_freeing.ensures.cells) c.requires,
  c.begin_freeing.ensures.freed,
)

pub give-requires-clause-granule : goal.give-requires-clause-granule
give-requires-clause-granule g c =
    granule-held c.args.granules.now.granules c.in-Some.last (hold_cells c.loop-last.hold) c.loop-last.invariant.0 c.in-Some.ensures.some

pub loop-last-smaller : goal.loop-last-smaller
loop-last-smaller g c =
    omega (arith, length-without (hold_cells c.loop-last.hold) c.in-Some.last c.in-Some.ensures.some, ap length c.give.ensures.cells)

pub loop-last-preserved : goal.loop-last-preserved
loop-last-preserved g c = (
  granules-without c.args.granules.now.granules c.in-Some.last (hold_cells c.loop-last.hold) (hold_cells c.give.new.hold) c.loop-last.invariant.0
      c.give.ensures.cells,
  c.give.ensures.freed (sym c.last_held.ensures.last ∙ c.in-Some.is) ∙ c.loop-last.invariant.1,
)
