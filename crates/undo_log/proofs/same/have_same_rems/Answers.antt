use Rattle.std.proofs.Common.{arith}
use Rattle.undo_log.proofs.SameLists.{same_up_to}
use Rattle.undo_log.proofs.same.have_same_rems.Goals as goal

pub returns : goal.returns
returns c = λ all.
    same_up_to c.loop-index.index c.args.one.now c.args.other.now c.if-one-other.false (omega (arith, c.loop-index-test.false)) c.loop-index.invariant
