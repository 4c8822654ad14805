use Rattle.std.proofs.Common.{◌≡◌}
use Rattle.queue_threads.proofs.recording.record_all.Given as goal

abbrev pub invariant-loop-call : goal.invariant-loop-call
invariant-loop-call g l = l.pass.queue ≡ l.recorder.queue
