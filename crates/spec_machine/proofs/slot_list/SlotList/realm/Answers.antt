use Rattle.spec_machine.proofs.Common.{◌∙◌, Slot, Some, ap, arith, seen, sym}
use Rattle.rmm_spec.specs.Cell as spec
use Rattle.spec_machine.proofs.Slots.{in_slots, slot-cell, IsOpened, not_realm}
use Rattle.spec_machine.proofs.slot_list.SlotList.realm.Goals as goal

pub index-requires : goal.index-requires
index-requires c =
    let o : IsOpened _ _ _ _ _ _ = record { are = c.self.invariant; is = c.self.view_is; within = c.requires } in
    omega (arith, in_slots o, c.self.inside.slots.ok.0)

pub returns-in-Rd : goal.returns-in-Rd
returns-in-Rd c =
    let o : IsOpened _ _ _ _ _ _ = record { are = c.self.invariant; is = c.self.view_is; within = c.requires } in
    ap Some c.realm.ensures ∙ ap (λ (s : Slot). spec.realm_in (seen c.self.inside.recs.items s)) (sym c.in-Rd.is)
    ∙ ap spec.realm_in (slot-cell o c.index.result.now c.index.ensures)

pub returns-in_default : goal.returns-in_default
returns-in_default c =
    let o : IsOpened _ _ _ _ _ _ = record { are = c.self.invariant; is = c.self.view_is; within = c.requires } in
    sym (not_realm c.self.inside.recs.items c.index.result.now c.in_default.not-Rd)
    ∙ ap spec.realm_in (slot-cell o c.index.result.now c.index.ensures)
