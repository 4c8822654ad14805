use Rattle.std.proofs.Common.{sym, subst}
use Rattle.command_core.specs.Changed.{hold_of, CanMake}
use Rattle.command_core.specs.Seen.{place_of}
use Rattle.part_tests.proofs.decisions.make.Goals as goal
use Rattle.command_core.specs.Pairs.{pair_cells}

pub apply-requires-clause-makes : goal.apply-requires-clause-makes
apply-requires-clause-makes c =
    subst (λ side. CanMake (hold_of (pair_cells c.args.held.now) side (place_of c.args.place.now)) c.args.change)
    (sym c.room.ensures.kept) c.requires.makes
