use Rattle.event_queue.proofs.Common.{ap, ◌∙◌, Page, ScribeView}
use Rattle.event_queue.proofs.Orders.{in_order-empty}
use Rattle.event_queue.proofs.Steps.{takes, drains, closes}
use Rattle.event_queue.proofs.scribe_pass.ScribePass.take_last.Goals as goal

pub absorb-requires-clause-rule : goal.absorb-requires-clause-rule
absorb-requires-clause-rule g c = takes _ _ _ _ (ap (λ (p : Page). p.keeps) c.into_page.ensures.page)

pub pop_as-requires-clause-rule : goal.pop_as-requires-clause-rule
pop_as-requires-clause-rule g c =
    let page = c.absorb.ensures.rule in
    let holder = ap (λ (p : Page). p.holder) page ∙ c.self.invariant.1 in
    (drains _ _ holder, closes _ _ holder (ap (λ (p : Page). p.keeps) page))

pub returns-clause-ordered : goal.returns-clause-ordered
returns-clause-ordered g c =
    let page = c.absorb.ensures.rule in
    in_order-empty _ _ c.pop_as.result _ _ _ _ (ap (λ (p : Page). p.entries) page ∙ ap (λ (p : Page). p.entries) c.into_page.ensures.page)
    (ap (λ (p : Page). p.events) page ∙ ap (λ (s : ScribeView). s.events) c.self.view_is) c.pop_as.ensures.rule
