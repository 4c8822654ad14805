use Rattle.event_queue.proofs.Steps.{hears, compares}
use Rattle.event_queue.proofs.cpu_pass.CpuPass.compare.Goals as goal

pub absorb-requires-clause-rule : goal.absorb-requires-clause-rule
absorb-requires-clause-rule c = hears _ _ _ _

pub learn_as-requires-clause-rule : goal.learn_as-requires-clause-rule
learn_as-requires-clause-rule c = compares _ _
