use Rattle.monitor_runs.proofs.Coming.{HasCome}
use Rattle.monitor_runs.proofs.cpu.Cpu.work.Given as goal

abbrev pub invariant-loop-command : goal.invariant-loop-command
invariant-loop-command g l = HasCome l.fn.monitor l.fn.self.token.cpu l.fn.self.program.items l.command-index l.token l.pass
