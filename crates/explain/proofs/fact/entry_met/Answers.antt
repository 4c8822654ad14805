-- No entry of the table is as it is asked for.
use Rattle.explain.proofs.Common.{◌*◌, ◌+◌, ◌≡◌, arith, state_of}
use Rattle.rmm_spec.specs.Walk.{entry_at, has_entry, passes}
use Rattle.explain.proofs.Searches.{none_all}
use Rattle.explain.proofs.fact.entry_met.Goals as goal

pub returns-clause-none : goal.returns-clause-none
unfolding has_entry
returns-clause-none c =
    let whole : c.loop-k.k ≡ 512 = omega (arith, c.loop-k-test.false, c.loop-k.auto.k-end) in
    none_all c.loop-k.k 512
    (λ k. passes c.args.wanted (entry_at (state_of c.args.machine.now) c.args.rd c.args.level (512 * c.args.number + k))) whole c.loop-k.invariant
