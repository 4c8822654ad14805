use Rattle.std.proofs.Common.{arith}
use Rattle.monitor.proofs.CpuLists.{cpus-refilled}
use Rattle.refused_memory.proofs.monitored.push_run.Goals as goal

pub push_closed-requires-clause-cpus : goal.push_closed-requires-clause-cpus
push_closed-requires-clause-cpus g c =
    let made = c.in_ok-monitor in
    let was = made.ensures.cpus in
    cpus-refilled made.monitor c.take_steps.new.tokens made.tokens.items c.take_steps.new.passes made.passes.items made.tokens.len made.passes.len
    c.take_steps.ensures.cpus (omega (arith, was.count, made.tokens.ok.0)) (omega (arith, was.count, was.pairs.same_count, made.passes.ok.0))
