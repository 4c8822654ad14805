-- No realm so far has the VMID.
use Rattle.explain.proofs.Common.{◌*◌, ◌≡◌, false, state_of}
use Rattle.rmm_spec.specs.Lookup.{any_below, has_vmid}
use Rattle.explain.proofs.fact.vmid_fact.Given as goal

abbrev pub invariant-loop-i : goal.invariant-loop-i
invariant-loop-i l = any_below l.i (λ k. has_vmid l.vmid ((state_of l.machine).realm (k * 4096))) ≡ false
