-- The call that is found was carried out.
use Rattle.std.proofs.Common.{sym}
use Rattle.slicing.proofs.UnusedLaws.{IsDone-from_call}
use Rattle.slicing.proofs.done.done_before.Goals as goal

pub returns : goal.returns
returns c =
    IsDone-from_call _ c.args.called c.args.place c.in_ok-call.call c.in_ok-answer.answer c.in_ok-call.ensures.some c.in_ok-answer.was
    (sym (rw c.in_ok-answer.was at c.if-not-is_done.ensures))
    c.if-answer-place.false
