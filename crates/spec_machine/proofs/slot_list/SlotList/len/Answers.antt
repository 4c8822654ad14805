use Rattle.spec_machine.proofs.Common.{HeldCells, ap, arith, length}
use Rattle.spec_machine.proofs.Slots.{length-held}
use Rattle.spec_machine.proofs.slot_list.SlotList.len.Goals as goal

pub returns : goal.returns
returns c =
    let t = c.self.inside in
    omega (arith, c.len.ensures, t.slots.ok.0, length-held t.slots.items t.recs.items, ap (λ (held : HeldCells). length held.items) c.self.view_is)
