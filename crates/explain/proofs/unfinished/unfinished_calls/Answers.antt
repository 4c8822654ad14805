-- One more.
use Rattle.explain.proofs.Opens.{next_open}
use Rattle.explain.proofs.unfinished.unfinished_calls.Goals as goal

pub loop-place-preserved : goal.loop-place-preserved
loop-place-preserved c =
    next_open c.args.history.now.recorded.events c.args.certificate.now.lines c.loop-place.place c.loop-place.calls.items _ c.unfinished_call.result
    c.loop-place.invariant c.in_ok-push.ensures.items c.unfinished_call.ensures
