-- A line with room and a newline would be a good one.
use Rattle.explain.proofs.GoodLines.{not_out_of_turn}
use Rattle.explain.proofs.flaw.why_left_over.Goals as goal

pub unreachable-requires : goal.unreachable-requires
unreachable-requires c =
    not_out_of_turn c.args.text.now c.args.bytes.now c.args.line c.requires.bad c.requires.here c.requires.kind c.in-OutOfTurn.ensures
