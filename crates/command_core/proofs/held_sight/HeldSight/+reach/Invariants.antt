use Rattle.command_core.proofs.held_sight.HeldSight.+reach.Given as goal

abbrev pub decreases-reach : goal.decreases-reach
decreases-reach l = l.max
