use Rattle.std.proofs.Common.{◌*◌, arith}
use Rattle.rmm_spec.specs.Lookup.{is_owned_by, has_rec}
use Rattle.flat_machine.specs.Flat.{state_of}
use Rattle.flat_machine.proofs.Searches.{one_passes, none_passes}
use Rattle.flat_machine.proofs.machine.FlatMachine.owns_rec.Goals as goal

pub returns-then-is_owned_by : goal.returns-then-is_owned_by
unfolding has_rec state_of
returns-then-is_owned_by c =
    let s = state_of c.args.self.now in
    one_passes (λ k. is_owned_by c.args.rd (s.rec (k * 4096))) s.config.granules c.loop-number.number
    (omega (arith, c.granules-number-end.ensures.count))
    (rw c.rec.ensures.there at c.if-is_owned_by.ensures)

pub returns : goal.returns
unfolding has_rec state_of
returns c =
    let s = state_of c.args.self.now in
    none_passes (λ k. is_owned_by c.args.rd (s.rec (k * 4096))) s.config.granules c.loop-number.number
    (omega (arith, c.loop-number-test.false, c.loop-number.auto.number-end, c.granules-number-end.ensures.count)) c.loop-number.invariant
