use Rattle.command_core.proofs.Common.{◌≡◌, arith, seen_state, subst, sym, ℕ}
use Rattle.command_core.specs.Furthest as spec
use Rattle.command_core.specs.Pairs.{pair_cells}
use Rattle.command_core.proofs.Stretches.{leading-more, leading-ends}
use Rattle.command_core.proofs.held_sight.HeldSight.leading.Goals as goal

pub returns-then-not-may_set : goal.returns-then-not-may_set
returns-then-not-may_set c =
    let a = c.args in
    leading-ends a.most (spec.may_set (seen_state a.self.now.config.now (pair_cells a.self.now.held.now)) a.stretch.now)
    c.loop-behind.behind (omega arith) c.loop-behind.invariant (sym c.if-not-may_set.ensures)

pub loop-behind-preserved : goal.loop-behind-preserved
loop-behind-preserved c =
    let a = c.args in
    leading-more c.loop-behind.behind (spec.may_set (seen_state a.self.now.config.now (pair_cells a.self.now.held.now)) a.stretch.now)
    c.loop-behind.invariant (sym c.if-not-may_set.ensures)

pub returns : goal.returns
returns c =
    let a = c.args in
    let at : c.loop-behind.behind ≡ a.most = omega (arith, c.loop-behind-test.false, c.loop-behind.auto.behind-end) in
    sym (subst (λ (n : ℕ). spec.leading n (spec.may_set (seen_state a.self.now.config.now (pair_cells a.self.now.held.now)) a.stretch.now) ≡ n)
    at c.loop-behind.invariant)
