use Rattle.std.proofs.Common.{◌≡◌}
use Rattle.event_queue.specs.View.{CanDrain}
use Rattle.thread_tests.proofs.recorded.record_drained.Given as goal

abbrev pub invariant-loop-round : goal.invariant-loop-round
invariant-loop-round g l =
    (l.pass.queue ≡ l.recorder.queue) × (l.order.queue ≡ l.recorder.queue) × CanDrain l.recorder.queue l.scribe l.history.recorded
