use Rattle.std.proofs.Common.{◌≡◌}
use Rattle.event_queue.specs.View.{CanDrain}
use Rattle.monitor_runs.proofs.working.drain_beside.Given as goal

abbrev pub invariant-loop-look : goal.invariant-loop-look
invariant-loop-look g l =
    CanDrain l.monitor.queue l.scribe l.history.recorded × (l.history.recorded.config ≡ l.fn.history.recorded.config)
