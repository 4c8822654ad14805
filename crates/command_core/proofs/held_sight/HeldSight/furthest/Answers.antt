use Rattle.std.proofs.Common.{ℕ, ◌+◌, ◌-◌, ◌*◌, ◌≤◌, min, Bool, arith, mul-le-mul_right, div-mul-le_self}
use Rattle.rmm_spec.specs.declared.accepted.Stretch.{Stretch}
use Rattle.rmm_spec.specs.Walk.{entry_size, table_size, table_number}
use Rattle.world_laws.specs.SeenState.{seen_state}
use Rattle.command_core.specs.Furthest as spec
use Rattle.command_core.specs.Pairs.{pair_cells}
use Rattle.command_core.proofs.Stretches.{leading-le}
use Rattle.command_core.proofs.held_sight.HeldSight.furthest.Goals as goal

-- what may be set ends by the top that is asked for
set-within : (p : ℕ → Bool) (stretch : Stretch) → spec.leading (spec.most_set stretch) p * entry_size stretch.level ≤ stretch.top - stretch.base
set-within p stretch =
    let few = mul-le-mul_right (entry_size stretch.level) (leading-le (spec.most_set stretch) p) in
    let room = min stretch.top ((table_number stretch.level stretch.base + 1) * table_size stretch.level) - stretch.base in
    let whole = div-mul-le_self room (entry_size stretch.level) in
    omega (arith, few, whole)

pub overflow_mul-result : goal.overflow_mul-result
overflow_mul-result c =
    let a = c.args in
    let passes : ℕ → Bool = spec.may_set (seen_state a.self.now.config.now (pair_cells a.self.now.held.now)) a.stretch.now in
    let within : c.leading.result * c.entry_size.result ≤ a.stretch.now.top - a.stretch.now.base =
    rw (c.leading.ensures, c.most_set.ensures.exact, c.entry_size.ensures) (set-within passes a.stretch.now) in
    omega (arith, within)

pub overflow_add-result : goal.overflow_add-result
overflow_add-result c =
    let a = c.args in
    let passes : ℕ → Bool = spec.may_set (seen_state a.self.now.config.now (pair_cells a.self.now.held.now)) a.stretch.now in
    let within : c.leading.result * c.entry_size.result ≤ a.stretch.now.top - a.stretch.now.base =
    rw (c.leading.ensures, c.most_set.ensures.exact, c.entry_size.ensures) (set-within passes a.stretch.now) in
    omega (arith, within)
