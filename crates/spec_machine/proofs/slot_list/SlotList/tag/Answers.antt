use Rattle.std.proofs.Common.{ap, ◌∙◌, arith}
use Rattle.rmm_spec.specs.Cell.{tag_of}
use Rattle.spec_machine.proofs.Slots.{in_slots, slot-cell, IsOpened}
use Rattle.spec_machine.proofs.slot_list.SlotList.tag.Goals as goal

pub index-requires : goal.index-requires
index-requires c =
    let o : IsOpened _ _ _ _ _ _ = record { are = c.self.invariant; is = c.self.view_is; within = c.requires } in
    omega (arith, in_slots o, c.self.inside.slots.ok.0)

pub returns : goal.returns
returns c =
    let o : IsOpened _ _ _ _ _ _ = record { are = c.self.invariant; is = c.self.view_is; within = c.requires } in
    c.tag.ensures c.self.inside.recs.items ∙ ap tag_of (slot-cell o c.index.result.now c.index.ensures)
