use Rattle.std.proofs.Common.{◌≡◌, ◌*◌, false}
use Rattle.rmm_spec.specs.Lookup.{any_below, is_owned_by}
use Rattle.flat_machine.specs.Flat.{state_of}
use Rattle.flat_machine.proofs.machine.FlatMachine.owns_rec.Given as goal

abbrev pub invariant-loop-number : goal.invariant-loop-number
invariant-loop-number l = any_below l.number (λ k. is_owned_by l.rd ((state_of l.self).rec (k * 4096))) ≡ false
