-- Each way past a place, and the two ends.
use Rattle.std.proofs.Common.{arith}
use Rattle.spec_machine.specs.View.{state_of}
use Rattle.checker.proofs.Scan.{AreNamedBelow-flagged, AreNamedBelow-pending, IsFirstMissing-here}
use Rattle.checker.proofs.replay.Replay.first_missing.Goals as goal

pub returns-in-Some : goal.returns-in-Some
returns-in-Some c = λ lines is_replay.
    let unset = rw c.deref-named-items.ensures.value at c.if-named.false in
    IsFirstMissing-here c.args.history.now.recorded lines c.args.self.now.named.items c.args.self.now.latest
    (state_of c.args.self.now.machine) c.loop-place.place
    c.in-Some.call.0 c.in-Some.call.1 is_replay (c.loop-place.invariant lines is_replay) unset c.in-Some.ensures

pub loop-place-preserved-then-named : goal.loop-place-preserved-then-named
loop-place-preserved-then-named c = λ lines is_replay.
    let set = rw c.deref-named-items.ensures.value at c.if-named.true in
    AreNamedBelow-flagged c.args.history.now.recorded lines c.args.self.now.named.items c.args.self.now.latest
    (state_of c.args.self.now.machine) c.loop-place.place
    is_replay (c.loop-place.invariant lines is_replay) set

pub loop-place-preserved : goal.loop-place-preserved
loop-place-preserved c = λ lines is_replay.
    AreNamedBelow-pending c.args.history.now.recorded.events lines c.loop-place.place (c.loop-place.invariant lines is_replay) c.in_default.ensures

pub returns : goal.returns
returns c = λ lines is_replay place cpu number command within.
    c.loop-place.invariant lines is_replay place cpu number command
    (omega (arith, within, c.requires.counted, c.loop-place-test.false, c.deref-named-items.ensures.len))
