use Rattle.std.proofs.Common.{◌≡◌}
use Rattle.monitor.specs.Executed.{ArePaired}
use Rattle.monitor_runs.proofs.cpu.execute.Given as goal

abbrev pub invariant-loop-try : goal.invariant-loop-try
invariant-loop-try g l = (l.token ≡ l.fn.token) × (l.pass ≡ l.fn.pass) × ArePaired l.monitor l.token l.pass
