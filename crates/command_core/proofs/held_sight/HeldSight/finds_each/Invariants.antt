use Rattle.command_core.proofs.Common.{◌*◌, ◌+◌, ◌≡◌, any_below, false, seen_state}
use Rattle.rmm_spec.specs.Walk.{passes, entry_at}
use Rattle.command_core.specs.Pairs.{pair_cells}
use Rattle.command_core.proofs.held_sight.HeldSight.finds_each.Given as goal

abbrev pub invariant-loop-place : goal.invariant-loop-place
invariant-loop-place l =
    any_below l.place (λ k. passes l.test
    (entry_at (seen_state l.self.config.now (pair_cells l.self.held.now)) l.rd l.level (512 * l.number + k))) ≡ false
