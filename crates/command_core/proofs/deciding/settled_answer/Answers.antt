use Rattle.command_core.proofs.Common.{hold_of, place_of, side_of, subst, sym}
use Rattle.std.specs.Prelude.{option_map, option_copied}
use Rattle.command_core.specs.Changed.{AnswersOwnShape, CanMakeAnswer}
use Rattle.command_core.specs.Foreseen.{side_or_unlisted}
use Rattle.command_core.specs.Pairs.{pair_cells}
use Rattle.command_core.proofs.OwnShapes.{rows-shaped}
use Rattle.command_core.proofs.Ready.{answer-makes}
use Rattle.command_core.proofs.deciding.settled_answer.Goals as goal

pub returns-clause-makes : goal.returns-clause-makes
returns-clause-makes c =
    let hold =
    hold_of (pair_cells c.args.held.now) (side_or_unlisted (option_map side_of (option_copied c.args.side))) (place_of c.args.place.now) in
    subst (CanMakeAnswer hold) (sym c.made_answer.ensures) (answer-makes c.args.config.now hold c.rows_answer-answer.result c.granules.ensures.most)

pub made_answer-requires-clause-shaped : goal.made_answer-requires-clause-shaped
made_answer-requires-clause-shaped c =
    subst AnswersOwnShape (sym c.rows_answer-answer.ensures)
    (rows-shaped c.args.config.now c.args.cpu c.args.call.now (pair_cells c.args.held.now) (option_map side_of (option_copied c.args.side))
    (place_of c.args.place.now))
