use Rattle.event_queue.proofs.Common.{◌∙◌}
use Rattle.event_queue.proofs.Stands.{open_has_called, can_return}
use Rattle.event_queue.proofs.Steps.{records, finds}
use Rattle.event_queue.proofs.cpu_pass.CpuPass.returned.Goals as goal

pub overflow_sub-number : goal.overflow_sub-number
overflow_sub-number c = λ c'. open_has_called _ _ _ _ c'.self.invariant.1 (rw (← c'.self.view_is) at c'.requires.«open»)

pub push_as-requires-clause-rule : goal.push_as-requires-clause-rule
push_as-requires-clause-rule c = λ c'.
    let seated = c'.self.invariant.1 in
    let opened = rw (← c'.self.view_is) at c'.requires.«open» in
    let can = can_return _ _ _ _ _ seated opened (rw (← c'.self.view_is) at c'.requires.committed) in
    (records _ _ _ _ seated.holder (seated.within, c'.reply_has_text-fact.ensures) can.goes_on can.is_next, finds _ _)

pub invariant_of-self : goal.invariant_of-self
invariant_of-self c = λ c'.
    let opened = rw (← c'.self.view_is) at c'.requires.«open» in
    let can = can_return _ _ _ _ _ c'.self.invariant.1 opened (rw (← c'.self.view_is) at c'.requires.committed) in
    (c'.in-Ok.ensures.queue.2 ∙ c'.self.invariant.0, can.seated _ c'.in-Ok.ensures.rule)
