-- One event further.
use Rattle.std.proofs.Common.{arith}
use Rattle.explain.proofs.Counts.{calls-called, calls-other}
use Rattle.explain.proofs.explaining.calls_of.Goals as goal

pub loop-place-preserved-in_default : goal.loop-place-preserved-in_default
loop-place-preserved-in_default c = record {
  within = omega (arith, c.loop-place.invariant.within);
  counted =
      calls-other c.args.history.now.recorded.events c.loop-place.place c.loop-place.calls
      (omega (arith, c.loop-place-test.true, c.len-place-end.ensures)) c.in_default.ensures.none
      c.loop-place.invariant.counted;
}

pub loop-place-preserved : goal.loop-place-preserved
loop-place-preserved c =
    let made = c.in-Some.ensures.some in record {
      within = omega (arith, c.loop-place.invariant.within);
      counted =
          calls-called c.args.history.now.recorded.events c.loop-place.place c.loop-place.calls c.in-Some._call.0 c.in-Some._call.1 made.0 made.1
          c.loop-place.invariant.counted;
    }
