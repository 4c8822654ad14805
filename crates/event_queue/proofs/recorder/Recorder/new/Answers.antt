use Rattle.event_queue.proofs.Common.{ap, Page}
use Rattle.event_queue.proofs.Steps.{begins, lends}
use Rattle.event_queue.proofs.recorder.Recorder.new.Goals as goal

pub ruled-requires-clause-rule : goal.ruled-requires-clause-rule
ruled-requires-clause-rule c = begins

pub another-requires-clause-rule : goal.another-requires-clause-rule
another-requires-clause-rule c = lends _ _ (ap (λ (p : Page). p.keeps) c.in_ok-passes.ensures.page)
