-- No entry so far is as it is asked for.
use Rattle.explain.proofs.Common.{◌*◌, ◌+◌, ◌≡◌, false, state_of}
use Rattle.rmm_spec.specs.Lookup.{any_below}
use Rattle.rmm_spec.specs.Walk.{entry_at, passes}
use Rattle.explain.proofs.fact.entry_met.Given as goal

abbrev pub invariant-loop-k : goal.invariant-loop-k
invariant-loop-k l = any_below l.k (λ k. passes l.wanted (entry_at (state_of l.machine) l.rd l.level (512 * l.number + k))) ≡ false
