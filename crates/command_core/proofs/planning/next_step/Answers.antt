use Rattle.command_core.proofs.Common.{◌∙◌, ◌≡◌, ap, false, place_of, subst, sym}
use Rattle.rmm_spec.specs.Locks.{needs}
use Rattle.command_core.specs.Pairs.{pair_cells, pairs-distinct}
use Rattle.command_core.specs.declared.next.Next.{Next}
use Rattle.command_core.specs.Plan.{IsStep, is_ready}
use Rattle.command_core.proofs.Steps.{next-settled, next-step}
use Rattle.command_core.proofs.planning.next_step.Goals as goal

pub returns-clause-settled : goal.returns-clause-settled
returns-clause-settled c =
    let a = c.args in
    next-settled a.config.now a.call.now (place_of a.place.now) a.learnt (pair_cells a.held.now) (pairs-distinct a.held.now)
    ∙ ap is_ready (sym c.next_for.ensures)

pub returns-clause-step : goal.returns-clause-step
returns-clause-step c =
    let a = c.args in
    let held = pair_cells a.held.now in
    let place = place_of a.place.now in
    subst (λ (n : Next). is_ready n ≡ false → IsStep a.config.now a.call.now place (needs place a.learnt a.call.now) held n) (sym c.next_for.ensures)
    (next-step a.config.now a.call.now place a.learnt held (pairs-distinct a.held.now))
