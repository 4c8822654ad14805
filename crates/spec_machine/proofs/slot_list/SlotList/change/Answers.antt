use Rattle.spec_machine.proofs.Common.{◌∙◌, ◌≡◌, HousedRec, Slot, [], ap, arith, seen, subst, sym, vec_capacity}
use Rattle.rmm_spec.specs.Cell as spec
use Rattle.granule_cells.specs.OneCell.{FitsCell, cell_changed}
use Rattle.spec_machine.specs.Held.{number_of}
use Rattle.spec_machine.proofs.Slots.{held-rec, held-set, housed-changed, in_slots, kept-set, not_rec-number, rec-below, rec-number, rec-read, seen-plain, slot-cell, slot-number, IsOpened}
use Rattle.spec_machine.proofs.slot_list.SlotList.change.Goals as goal

pub index-requires : goal.index-requires
index-requires c =
    let o : IsOpened _ _ _ _ _ _ = record { are = c.self.invariant; is = c.self.view_is; within = c.requires.within } in
    omega (arith, in_slots o, c.self.inside.slots.ok.0)

pub index_mut-requires : goal.index_mut-requires
index_mut-requires c =
    let o : IsOpened _ _ _ _ _ _ = record { are = c.self.invariant; is = c.self.view_is; within = c.requires.within } in
    omega (arith, in_slots o, c.self.inside.slots.ok.0)

pub index_mut-requires-2 : goal.index_mut-requires-2
index_mut-requires-2 c =
    let o : IsOpened _ _ _ _ _ _ = record { are = c.self.invariant; is = c.self.view_is; within = c.requires.within } in
    omega (arith, rec-below o c.in-Rec.number c.index.result.now c.index.ensures c.in-Rec.is, c.self.inside.recs.ok.0)

pub change-requires : goal.change-requires
change-requires c =
    let o : IsOpened _ _ _ _ _ _ = record { are = c.self.invariant; is = c.self.view_is; within = c.requires.within } in
    let slots = c.self.inside.slots.items in
    let slot = c.index_mut.result.now in
    let plain : number_of slot ≡ 0 = slot-number slots c.args.place slot (in_slots o) c.index_mut.ensures.value
    ∙ sym (slot-number slots c.args.place c.index.result.now (in_slots o) c.index.ensures) ∙ not_rec-number c.index.result.now c.in_default.not-Rec in
    let cell = seen-plain c.self.inside.recs.items [] slot plain ∙ slot-cell o slot c.index_mut.ensures.value in
    record { plain = plain; fits = subst (λ now. FitsCell now c.args.change) (sym cell) c.requires.fits }

pub change-requires-2 : goal.change-requires-2
change-requires-2 c =
    let o : IsOpened _ _ _ _ _ _ = record { are = c.self.invariant; is = c.self.view_is; within = c.requires.within } in
    let recs = c.self.inside.recs.items in
    let number = c.in-Rec.number in
    let read = rec-read recs number c.index_mut-2.result.now
    (rec-below o number c.index.result.now c.index.ensures c.in-Rec.is) c.index_mut-2.ensures.value in
    let cell = ap (λ (r : HousedRec). spec.Rec r.rec) read ∙ ap (λ (s : Slot). seen recs s) (sym c.in-Rec.is)
    ∙ slot-cell o c.index.result.now c.index.ensures in
    subst (λ now. FitsCell now c.args.change) (sym cell) c.requires.fits

pub invariant_of-self : goal.invariant_of-self
invariant_of-self c =
    let o : IsOpened _ _ _ _ _ _ = record { are = c.self.invariant; is = c.self.view_is; within = c.requires.within } in
    let slots = c.self.inside.slots.items in
    let slot = c.index_mut.result.now in
    let plain : number_of slot ≡ 0 = slot-number slots c.args.place slot (in_slots o) c.index_mut.ensures.value
    ∙ sym (slot-number slots c.args.place c.index.result.now (in_slots o) c.index.ensures) ∙ not_rec-number c.index.result.now c.in_default.not-Rec in
    kept-set o slot c.change.new.self c.index_mut.ensures.value (c.change.ensures.plain ∙ sym plain)

pub returns-in_default : goal.returns-in_default
returns-in_default c =
    let o : IsOpened _ _ _ _ _ _ = record { are = c.self.invariant; is = c.self.view_is; within = c.requires.within } in
    held-set o c.index_mut.result.now c.change.new.self (cell_changed c.args.change) c.index_mut.ensures.value
    (c.change.ensures.cell c.self.inside.recs.items)

pub invariant_of-self-2 : goal.invariant_of-self-2
invariant_of-self-2 c =
    let o : IsOpened _ _ _ _ _ _ = record { are = c.self.invariant; is = c.self.view_is; within = c.requires.within } in
    let t = c.self.inside in
    let number = c.in-Rec.number in
    let read = rec-read t.recs.items number c.index_mut-2.result.now
    (rec-below o number c.index.result.now c.index.ensures c.in-Rec.is) c.index_mut-2.ensures.value in
    record {
      housed = housed-changed t.slots.items t.recs.items c.args.place number _ c.self.invariant.housed
          (rec-number o number c.index.result.now c.index.ensures c.in-Rec.is)
          (c.change-2.ensures.home ∙ ap (λ (r : HousedRec). r.home) read);
      rooms = c.self.invariant.rooms;
    }

pub returns : goal.returns
returns c =
    let o : IsOpened _ _ _ _ _ _ = record { are = c.self.invariant; is = c.self.view_is; within = c.requires.within } in
    let t = c.self.inside in
    let number = c.in-Rec.number in
    let read = rec-read t.recs.items number c.index_mut-2.result.now
    (rec-below o number c.index.result.now c.index.ensures c.in-Rec.is) c.index_mut-2.ensures.value in
    held-rec t.slots.items t.recs.items c.args.place number _ c.self.invariant.housed
    (rec-number o number c.index.result.now c.index.ensures c.in-Rec.is)
    (vec_capacity t.slots) c.args.self.now (cell_changed c.args.change) c.self.view_is
    (c.change-2.ensures.rec ∙ ap (λ (r : HousedRec). cell_changed c.args.change (spec.Rec r.rec)) read)
