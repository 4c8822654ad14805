use Rattle.std.proofs.Common.{refl}
use Rattle.rmm_spec.specs.Locks.{needs}
use Rattle.command_core.specs.Seen.{place_of}
use Rattle.granule_lock.specs.HeldCells.{hold_cells}
use Rattle.granule_lock.proofs.HeldGranules.{granules-without, is_held-contained, is_held-new, held-freed}
use Rattle.granule_lock.proofs.locking.goes_on.Goals as goal

pub take-requires-clause-new : goal.take-requires-clause-new
take-requires-clause-new g c = is_held-new (hold_cells c.args.hold.now) c.in-Take.pa (c.in-Take.ensures.step refl).is_new

pub give-requires-clause-held : goal.give-requires-clause-held
give-requires-clause-held g c =
    let call = c.args.call.now in
    let place = place_of c.args.place.now in
    is_held-contained (hold_cells c.args.hold.now) c.in-Free.pa
    (held-freed c.args.config.now call place (needs place c.args.learnt.now call) (hold_cells c.args.hold.now) c.in-Free.pa c.in-Free.owner
    (c.in-Free.ensures.step refl))

pub returns-in-Free-clause-granules : goal.returns-in-Free-clause-granules
returns-in-Free-clause-granules g c =
    granules-without c.args.granules.now.granules c.in-Free.pa (hold_cells c.args.hold.now)
    (hold_cells c.give.new.hold) c.requires.granules c.give.ensures.cells
