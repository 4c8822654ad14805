use Rattle.event_queue.proofs.Steps.{tells}
use Rattle.event_queue.proofs.scribe_pass.ScribePass.note.Goals as goal

pub another-requires-clause-rule : goal.another-requires-clause-rule
another-requires-clause-rule c = tells _ _ c.self.invariant.1
