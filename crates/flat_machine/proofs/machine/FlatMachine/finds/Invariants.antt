use Rattle.std.proofs.Common.{◌≡◌, ◌+◌, ◌*◌, false}
use Rattle.rmm_spec.specs.Lookup.{any_below}
use Rattle.rmm_spec.specs.Walk.{passes, entry_at}
use Rattle.flat_machine.specs.Flat.{state_of}
use Rattle.flat_machine.proofs.machine.FlatMachine.finds.Given as goal

abbrev pub invariant-loop-place : goal.invariant-loop-place
invariant-loop-place l = any_below l.place (λ k. passes l.test (entry_at (state_of l.self) l.rd l.level (512 * l.number + k))) ≡ false
