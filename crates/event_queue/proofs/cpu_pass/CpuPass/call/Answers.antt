use Rattle.event_queue.proofs.Common.{◌∙◌}
use Rattle.event_queue.proofs.Stands.{can_call}
use Rattle.event_queue.proofs.Steps.{records, finds}
use Rattle.event_queue.proofs.cpu_pass.CpuPass.call.Goals as goal

pub push_as-requires-clause-rule : goal.push_as-requires-clause-rule
push_as-requires-clause-rule c = λ c'.
    let seated = c'.self.invariant.1 in
    let can = can_call _ _ _ _ c'.args.command seated (rw (← c'.self.view_is) at c'.requires.closed) in
    (records _ _ _ _ seated.holder (seated.within, c'.requires.command) can.goes_on can.is_next, finds _ _)

pub invariant_of-self : goal.invariant_of-self
invariant_of-self c = λ c'.
    let can = can_call _ _ _ _ c'.args.command c'.self.invariant.1 (rw (← c'.self.view_is) at c'.requires.closed) in
    (c'.in-Ok.ensures.queue.2 ∙ c'.self.invariant.0, can.seated _ c'.in-Ok.ensures.rule)
