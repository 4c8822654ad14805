use Rattle.event_queue.proofs.Common.{ap, Page}
use Rattle.event_queue.proofs.Steps.{counts}
use Rattle.event_queue.proofs.recorder.count_cpus.Goals as goal

pub another-requires-clause-rule : goal.another-requires-clause-rule
another-requires-clause-rule c =
    let is_page = c.loop-counted.invariant.1 in
    counts _ _ (ap (λ (p : Page). p.holder) is_page) (ap (λ (p : Page). p.seated) is_page)
