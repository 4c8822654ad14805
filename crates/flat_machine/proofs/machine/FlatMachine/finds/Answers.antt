use Rattle.std.proofs.Common.{◌+◌, ◌*◌, arith}
use Rattle.rmm_spec.specs.Walk.{passes, entry_at, has_entry}
use Rattle.flat_machine.specs.Flat.{state_of}
use Rattle.flat_machine.proofs.Searches.{one_passes, none_passes}
use Rattle.flat_machine.proofs.machine.FlatMachine.finds.Goals as goal

pub returns-then-passes : goal.returns-then-passes
unfolding has_entry
returns-then-passes c =
    let a = c.args in
    one_passes (λ k. passes a.test (entry_at (state_of a.self.now) a.rd a.level (512 * a.number + k))) 512 c.loop-place.place (omega arith)
    (rw c.entry.ensures at c.if-passes.ensures)

pub returns : goal.returns
unfolding has_entry
returns c =
    let a = c.args in
    none_passes (λ k. passes a.test (entry_at (state_of a.self.now) a.rd a.level (512 * a.number + k))) 512 c.loop-place.place
    (omega (arith, c.loop-place-test.false, c.loop-place.auto.place-end)) c.loop-place.invariant
