use Rattle.command_core.proofs.Common.{◌*◌, ◌+◌, ◌≡◌, Bool, any_below, arith, false, seen_state, subst, sym, ℕ}
use Rattle.rmm_spec.specs.Walk.{passes, entry_at, has_entry}
use Rattle.spec_lemmas.proofs.Placed.{any_below-from}
use Rattle.command_core.specs.Pairs.{pair_cells}
use Rattle.command_core.proofs.held_sight.HeldSight.finds_each.Goals as goal

pub returns-then-passes : goal.returns-then-passes
unfolding has_entry
returns-then-passes c =
    let a = c.args in
    let found : ℕ → Bool =
    λ k. passes a.test (entry_at (seen_state a.self.now.config.now (pair_cells a.self.now.held.now)) a.rd a.level (512 * a.number + k)) in
    let passed = rw c.entry.ensures at c.if-passes.ensures in
    sym (any_below-from 512 found c.loop-place.place (omega arith) (sym passed))

pub returns : goal.returns
unfolding has_entry
returns c =
    let a = c.args in
    let found : ℕ → Bool =
    λ k. passes a.test (entry_at (seen_state a.self.now.config.now (pair_cells a.self.now.held.now)) a.rd a.level (512 * a.number + k)) in
    let all : c.loop-place.place ≡ 512 = omega (arith, c.loop-place-test.false, c.loop-place.auto.place-end) in
    sym (subst (λ n. any_below n found ≡ false) all c.loop-place.invariant)
