use Rattle.command_core.proofs.Common.{◌∙◌, Call, ap, call_of, place_of, subst, sym}
use Rattle.command_core.specs.declared.next.Next.{Next}
use Rattle.command_core.specs.Plan.{IsPlanned, is_ready}
use Rattle.command_core.specs.Next.{next}
use Rattle.command_core.specs.Pairs.{pair_cells, pairs-distinct}
use Rattle.command_core.proofs.Steps.{next-planned, next-settled}
use Rattle.command_core.proofs.planning.next_lock.Goals as goal

pub returns-clause-settled : goal.returns-clause-settled
returns-clause-settled c =
    let a = c.args in
    let held = pair_cells a.held.now in
    let place = place_of a.place.now in
    next-settled a.config.now (call_of a.command.now) place a.learnt held (pairs-distinct a.held.now)
    ∙ ap is_ready (sym (c.next_step.ensures.exact ∙ ap (λ (x : Call). next a.config.now x place a.learnt held) c.call.ensures))

pub returns-clause-planned : goal.returns-clause-planned
returns-clause-planned c =
    let a = c.args in
    let held = pair_cells a.held.now in
    let place = place_of a.place.now in
    subst (λ (n : Next). IsPlanned a.config.now a.command.now place a.learnt held n)
    (sym (c.next_step.ensures.exact ∙ ap (λ (x : Call). next a.config.now x place a.learnt held) c.call.ensures))
    (next-planned a.config.now a.command.now place a.learnt held (pairs-distinct a.held.now))
