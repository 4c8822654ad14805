use Rattle.std.specs.Prelude.{◌≡◌}
use Rattle.event_queue.specs.View.{CanDrain}
use Rattle.bench.proofs.monitors.recorded.drained.Given as goal

abbrev pub invariant-loop-look : goal.invariant-loop-look
invariant-loop-look g l =
    CanDrain l.monitor.queue l.scribe l.history.recorded × (l.history.recorded.config ≡ l.fn.history.recorded.config)
