use Rattle.event_queue.proofs.Common.{ap, Page}
use Rattle.event_queue.proofs.Steps.{lends, takes}
use Rattle.event_queue.proofs.cpu_pass.CpuPass.commit.Goals as goal

pub another-page-requires-clause-rule : goal.another-page-requires-clause-rule
another-page-requires-clause-rule c = lends _ _ (ap (λ (p : Page). p.keeps) c.order.invariant.1)

pub absorb-requires-clause-rule : goal.absorb-requires-clause-rule
absorb-requires-clause-rule c = takes _ _ _ _ (ap (λ (p : Page). p.keeps) c.another-page.ensures.rule.1)
