use Rattle.monitor.specs.Executed.{ArePaired}
use Rattle.thread_tests.proofs.cpu.Cpu.prepare.Given as goal

abbrev pub invariant-loop-text : goal.invariant-loop-text
invariant-loop-text g l = ArePaired l.monitor l.self.token l.self.pass
