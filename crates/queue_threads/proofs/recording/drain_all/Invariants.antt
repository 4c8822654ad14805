use Rattle.event_queue.specs.View.{CanDrain}
use Rattle.queue_threads.proofs.recording.drain_all.Given as goal

abbrev pub invariant-loop-look : goal.invariant-loop-look
invariant-loop-look g l = CanDrain l.recorder.queue l.scribe l.history.recorded
