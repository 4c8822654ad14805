use Rattle.std.proofs.Common.{◌≡◌}
use Rattle.event_queue.specs.View.{CanDrain}
use Rattle.monitor.specs.Cpus.{AreCpus}
use Rattle.refused_memory.proofs.monitored.take_steps.Given as goal

abbrev pub invariant-loop-step : goal.invariant-loop-step
invariant-loop-step g l =
    AreCpus l.monitor l.tokens l.passes × CanDrain l.monitor.queue l.drained.scribe l.drained.history.recorded
    × (l.drained.history.recorded.config ≡ l.fn.drained.history.recorded.config)
