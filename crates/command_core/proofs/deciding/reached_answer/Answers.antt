use Rattle.command_core.proofs.Common.{subst, sym}
use Rattle.command_core.specs.Changed.{HasOwnShape}
use Rattle.command_core.proofs.OwnShapes.{reached-shaped}
use Rattle.command_core.proofs.deciding.reached_answer.Goals as goal

pub can_make-requires-clause-shaped : goal.can_make-requires-clause-shaped
can_make-requires-clause-shaped c =
    subst HasOwnShape (sym c.reached_change-change.ensures) (reached-shaped c.args.stretch.now c.furthest-top.result)
