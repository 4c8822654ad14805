use Rattle.command_core.proofs.Common.{◌∙◌, ap, seen_state, sym}
use Rattle.world_laws.specs.Walking.{is_refused_early}
use Rattle.command_core.specs.Pairs.{pair_cells}
use Rattle.command_core.proofs.Walked.{outside-walk, owned-walk}
use Rattle.command_core.proofs.held_sight.HeldSight.is_refused_early.Goals as goal

pub answer_outside-requires : goal.answer_outside-requires
answer_outside-requires c =
    let a = c.args in
    record { owned = owned-walk (seen_state a.self.now.config.now (pair_cells a.self.now.held.now)) a.call.now c.requires }

pub returns-in-Ok : goal.returns-in-Ok
returns-in-Ok c =
    let a = c.args in
    ap is_refused_early (sym c.in-Ok.is ∙ (c.answer_outside.ensures
    ∙ sym (outside-walk _ _ (seen_state a.self.now.config.now (pair_cells a.self.now.held.now)) 0 a.call.now c.requires)))

pub returns-in-Err : goal.returns-in-Err
returns-in-Err c =
    let a = c.args in
    c.is_early.ensures ∙ ap is_refused_early (sym c.in-Err.is ∙ (c.answer_outside.ensures
    ∙ sym (outside-walk _ _ (seen_state a.self.now.config.now (pair_cells a.self.now.held.now)) 0 a.call.now c.requires)))
