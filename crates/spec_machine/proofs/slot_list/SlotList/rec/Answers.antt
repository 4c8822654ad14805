use Rattle.spec_machine.proofs.Common.{◌∙◌, HousedRec, Slot, Some, ap, arith, seen, sym}
use Rattle.rmm_spec.specs.Cell as spec
use Rattle.spec_machine.proofs.Slots.{in_slots, rec-below, rec-read, slot-cell, IsOpened, not_rec}
use Rattle.spec_machine.proofs.slot_list.SlotList.rec.Goals as goal

pub index-requires : goal.index-requires
index-requires c =
    let o : IsOpened _ _ _ _ _ _ = record { are = c.self.invariant; is = c.self.view_is; within = c.requires } in
    omega (arith, in_slots o, c.self.inside.slots.ok.0)

pub index-requires-in-Rec : goal.index-requires-in-Rec
index-requires-in-Rec c =
    let o : IsOpened _ _ _ _ _ _ = record { are = c.self.invariant; is = c.self.view_is; within = c.requires } in
    omega (arith, rec-below o c.in-Rec.number c.index.result.now c.index.ensures c.in-Rec.is, c.self.inside.recs.ok.0)

pub returns-in-Rec : goal.returns-in-Rec
returns-in-Rec c =
    let o : IsOpened _ _ _ _ _ _ = record { are = c.self.invariant; is = c.self.view_is; within = c.requires } in
    let recs = c.self.inside.recs.items in
    let below = rec-below o c.in-Rec.number c.index.result.now c.index.ensures c.in-Rec.is in
    ap (λ (r : HousedRec). Some r.rec) (rec-read recs c.in-Rec.number c.index-in-Rec.result.now below c.index-in-Rec.ensures)
    ∙ (ap (λ (s : Slot). spec.rec_in (seen recs s)) (sym c.in-Rec.is) ∙ ap spec.rec_in (slot-cell o c.index.result.now c.index.ensures))

pub returns-in_default : goal.returns-in_default
returns-in_default c =
    let o : IsOpened _ _ _ _ _ _ = record { are = c.self.invariant; is = c.self.view_is; within = c.requires } in
    sym (not_rec c.self.inside.recs.items c.index.result.now c.in_default.not-Rec) ∙ ap spec.rec_in (slot-cell o c.index.result.now c.index.ensures)
