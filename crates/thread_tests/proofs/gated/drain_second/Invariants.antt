use Rattle.event_queue.specs.View.{CanDrain}
use Rattle.thread_tests.proofs.gated.drain_second.Given as goal

abbrev pub invariant-loop-look : goal.invariant-loop-look
invariant-loop-look g l = CanDrain l.monitor.queue l.scribe l.history.recorded
