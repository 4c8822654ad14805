use Rattle.command_core.proofs.Common.{hold_of, place_of, side_of}
use Rattle.command_core.specs.Pairs.{pair_cells}
use Rattle.command_core.proofs.Foreseen.{settled-decision}
use Rattle.command_core.proofs.deciding.answer.Goals as goal

pub returns-clause-decides : goal.returns-clause-decides
returns-clause-decides c =
    settled-decision c.args.config.now c.args.cpu c.args.command.now
    (hold_of (pair_cells c.args.held.now) (side_of c.args.side.now) (place_of c.args.place.now)) c.call.result c.settled_answer.result
    c.call.ensures c.requires.settled c.settled_answer.ensures.answer c.settled_answer.ensures.makes
