use Rattle.std.proofs.Common.{◌≡◌, ◌*◌, false}
use Rattle.rmm_spec.specs.Lookup.{any_below, has_vmid}
use Rattle.flat_machine.specs.Flat.{state_of}
use Rattle.flat_machine.proofs.machine.FlatMachine.uses_vmid.Given as goal

abbrev pub invariant-loop-number : goal.invariant-loop-number
invariant-loop-number l = any_below l.number (λ k. has_vmid l.vmid ((state_of l.self).realm (k * 4096))) ≡ false
