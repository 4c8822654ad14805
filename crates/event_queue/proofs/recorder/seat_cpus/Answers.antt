use Rattle.event_queue.proofs.Common.{◌+◌, ap, ◌∙◌, Page, before_calls}
use Rattle.event_queue.proofs.Steps.{seats}
use Rattle.event_queue.proofs.Passes.{are_seated-push}
use Rattle.event_queue.proofs.recorder.seat_cpus.Goals as goal

pub another-pass-requires-clause-rule : goal.another-pass-requires-clause-rule
another-pass-requires-clause-rule c =
    let is_page = c.loop-cpu.invariant.1 in
    seats _ _ (ap (λ (p : Page). p.holder) is_page) (ap (λ (p : Page). p.keeps) is_page) (ap (λ (p : Page). p.entries) is_page)

pub loop-cpu-preserved : goal.loop-cpu-preserved
loop-cpu-preserved c =
    let old = c.loop-cpu.invariant in
    let made = c.another-pass.ensures in
    let cpus = ap (λ (p : Page). p.cpus) made.rule.1 ∙ ap (λ (p : Page). p.cpus) old.1 in (
      (made.queue.0.0 ∙ old.0.0, made.queue.0.2 ∙ old.0.1),
      made.rule.0 ∙ ap (λ (p : Page). record p { seated = p.seated + 1 }) old.1,
      are_seated-push _ _ _ _ _ _ old.2 c.in_ok-push.ensures.items
          (c.seated.ensures ∙ (λ i. before_calls (made.queue.1.0 i) (cpus i) c.loop-cpu.cpu)),
    )
