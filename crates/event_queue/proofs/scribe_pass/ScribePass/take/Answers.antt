use Rattle.event_queue.proofs.Steps.{drains, finds}
use Rattle.event_queue.proofs.scribe_pass.ScribePass.take.Goals as goal

pub pop_as-requires-clause-rule : goal.pop_as-requires-clause-rule
pop_as-requires-clause-rule c = λ c'. (drains _ _ c'.self.invariant.1, finds _ _)
