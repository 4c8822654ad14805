use Rattle.command_core.proofs.Common.{◌≡◌, seen_state}
use Rattle.command_core.specs.Furthest as spec
use Rattle.command_core.specs.Pairs.{pair_cells}
use Rattle.command_core.proofs.held_sight.HeldSight.leading.Given as goal

abbrev pub invariant-loop-behind : goal.invariant-loop-behind
invariant-loop-behind l =
    spec.leading l.behind (spec.may_set (seen_state l.self.config.now (pair_cells l.self.held.now)) l.stretch) ≡ l.behind
