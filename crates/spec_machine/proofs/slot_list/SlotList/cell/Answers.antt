use Rattle.spec_machine.proofs.Common.{◌<◌, ◌∙◌, HousedRec, List, arith, length, seen, subst, sym}
use Rattle.spec_machine.proofs.Slots.{in_slots, rec-below, slot-cell, IsOpened}
use Rattle.spec_machine.proofs.slot_list.SlotList.cell.Goals as goal

pub index-requires : goal.index-requires
index-requires c =
    let o : IsOpened _ _ _ _ _ _ = record { are = c.self.invariant; is = c.self.view_is; within = c.requires } in
    omega (arith, in_slots o, c.self.inside.slots.ok.0)

pub shown-requires : goal.shown-requires
shown-requires c number is =
    let o : IsOpened _ _ _ _ _ _ = record { are = c.self.invariant; is = c.self.view_is; within = c.requires } in
    subst (λ (recs : List HousedRec). number < length recs) (sym c.as_slice.ensures.value) (rec-below o number c.index.result.now c.index.ensures is)

pub returns : goal.returns
returns c =
    let o : IsOpened _ _ _ _ _ _ = record { are = c.self.invariant; is = c.self.view_is; within = c.requires } in
    c.shown.ensures ∙ ((λ i. seen (c.as_slice.ensures.value i) c.index.result.now) ∙ slot-cell o c.index.result.now c.index.ensures)
