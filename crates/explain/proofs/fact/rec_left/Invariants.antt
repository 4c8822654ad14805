-- No REC so far is one of the realm.
use Rattle.explain.proofs.Common.{◌*◌, ◌≡◌, false, state_of}
use Rattle.rmm_spec.specs.Lookup.{any_below, is_owned_by}
use Rattle.explain.proofs.fact.rec_left.Given as goal

abbrev pub invariant-loop-i : goal.invariant-loop-i
invariant-loop-i l = any_below l.i (λ k. is_owned_by l.rd ((state_of l.machine).rec (k * 4096))) ≡ false
