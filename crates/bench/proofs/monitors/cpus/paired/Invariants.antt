use Rattle.std.specs.Prelude.{All}
use Rattle.monitor.specs.Cpus.{ArePairs}
use Rattle.monitor.specs.Executed.{ArePaired}
use Rattle.bench.proofs.monitors.cpus.paired.Given as goal

abbrev pub invariant-loop-cpu : goal.invariant-loop-cpu
invariant-loop-cpu g l = ArePairs l.monitor l.tokens.items l.passes.items × All (λ cpu. ArePaired l.monitor cpu.token cpu.pass) l.cpus.items
