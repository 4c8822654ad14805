use Rattle.std.proofs.Common.{◌≡◌, ◌-◌, map}
use Rattle.std.specs.Prelude.{All}
use Rattle.monitor_runs.specs.Worked.{HaveWorked, promised}
use Rattle.monitor_runs.proofs.working.join_all.Given as goal

abbrev pub invariant-loop-cpu : goal.invariant-loop-cpu
invariant-loop-cpu g l =
    HaveWorked l.monitor l._scenario.programs l._cpu l.tokens.items l.passes.items
    × All (λ worker. worker.promise.monitor.now ≡ l.monitor) l.workers.items
    × (map (λ worker. (worker.promise.cpu, worker.promise.program.value.items)) l.workers.items
    ≡ promised l._scenario.programs l.monitor.config.cpus (l.monitor.config.cpus - l._cpu))
