use Rattle.std.proofs.Common.{◌*◌, arith}
use Rattle.rmm_spec.specs.Lookup.{has_vmid, is_vmid_used}
use Rattle.flat_machine.specs.Flat.{state_of}
use Rattle.flat_machine.proofs.Searches.{one_passes, none_passes}
use Rattle.flat_machine.proofs.machine.FlatMachine.uses_vmid.Goals as goal

pub returns-then-has_vmid : goal.returns-then-has_vmid
unfolding is_vmid_used state_of
returns-then-has_vmid c =
    let s = state_of c.args.self.now in
    one_passes (λ k. has_vmid c.args.vmid (s.realm (k * 4096))) s.config.granules c.loop-number.number
    (omega (arith, c.granules-number-end.ensures.count))
    (rw c.realm.ensures.there at c.if-has_vmid.ensures)

pub returns : goal.returns
unfolding is_vmid_used state_of
returns c =
    let s = state_of c.args.self.now in
    none_passes (λ k. has_vmid c.args.vmid (s.realm (k * 4096))) s.config.granules c.loop-number.number
    (omega (arith, c.loop-number-test.false, c.loop-number.auto.number-end, c.granules-number-end.ensures.count)) c.loop-number.invariant
