use Rattle.std.proofs.Common.{◌≡◌, ◌≤◌, ◌-◌, length, map, vec_len, vec_capacity}
use Rattle.std.specs.Prelude.{All}
use Rattle.monitor_runs.specs.Worked.{AreWaiting, promised}
use Rattle.monitor_runs.proofs.working.fn.work_all.scope.Given as goal

abbrev pub invariant-loop-cpu : goal.invariant-loop-cpu
invariant-loop-cpu g l =
    AreWaiting l.monitor.now l.scenario.programs l.waiting.tokens.items l.waiting.passes.items l.waiting.programs.items
    × (length l.waiting.tokens.items ≡ l.monitor.now.config.cpus - l._cpu)
    × All (λ worker. worker.promise.monitor.now ≡ l.monitor.now) l.workers.items
    × (map (λ worker. (worker.promise.cpu, worker.promise.program.value.items)) l.workers.items
    ≡ promised l.scenario.programs l.monitor.now.config.cpus l._cpu)
    × (vec_len l.workers ≡ l._cpu) × (l.monitor.now.config.cpus ≤ vec_capacity l.workers)
