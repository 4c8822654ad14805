use Rattle.monitor.specs.Executed.{ArePaired}
use Rattle.bench.proofs.monitors.cpu.Cpu.work.Given as goal

abbrev pub invariant-loop-place : goal.invariant-loop-place
invariant-loop-place g l = ArePaired l.monitor l.self.token l.self.pass
