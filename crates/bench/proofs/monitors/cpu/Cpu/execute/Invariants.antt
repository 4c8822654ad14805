use Rattle.monitor.specs.Executed.{ArePaired}
use Rattle.bench.proofs.monitors.cpu.Cpu.execute.Given as goal

abbrev pub invariant-loop-try : goal.invariant-loop-try
invariant-loop-try g l = ArePaired l.monitor l.self.token l.self.pass
