use Rattle.spec_machine.proofs.Common.{◌∙◌, [], ap, arith, seen, sym}
use Rattle.granule_cells.specs.Seen.{cell_of}
use Rattle.spec_machine.specs.Held.{number_of}
use Rattle.spec_machine.proofs.Slots.{held-set, in_slots, kept-set, no_rec-number, seen-plain, slot-cell, slot-number, IsOpened}
use Rattle.spec_machine.proofs.slot_list.SlotList.fill.Goals as goal

pub index_mut-requires : goal.index_mut-requires
index_mut-requires c =
    let o : IsOpened _ _ _ _ _ _ = record { are = c.self.invariant; is = c.self.view_is; within = c.requires.within } in
    omega (arith, in_slots o, c.self.inside.slots.ok.0)

pub into_cell-requires : goal.into_cell-requires
into_cell-requires c =
    let o : IsOpened _ _ _ _ _ _ = record { are = c.self.invariant; is = c.self.view_is; within = c.requires.within } in
    ap number_of c.replace.ensures.value
    ∙ slot-number c.self.inside.slots.items c.args.place c.index_mut.result.now (in_slots o) c.index_mut.ensures.value
    ∙ no_rec-number o c.requires.plain

pub invariant_of-self : goal.invariant_of-self
invariant_of-self c =
    let o : IsOpened _ _ _ _ _ _ = record { are = c.self.invariant; is = c.self.view_is; within = c.requires.within } in
    let plain = slot-number c.self.inside.slots.items c.args.place c.index_mut.result.now (in_slots o) c.index_mut.ensures.value
    ∙ no_rec-number o c.requires.plain in
    kept-set o c.index_mut.result.now c.replace.new.dest c.index_mut.ensures.value
    (ap number_of c.replace.ensures.after ∙ c.in-Ok.ensures.plain ∙ sym plain)

pub returns-clause-put : goal.returns-clause-put
returns-clause-put c =
    let o : IsOpened _ _ _ _ _ _ = record { are = c.self.invariant; is = c.self.view_is; within = c.requires.within } in
    let recs = c.self.inside.recs.items in
    held-set o c.index_mut.result.now c.replace.new.dest (λ _. cell_of c.args.cell) c.index_mut.ensures.value
    (ap (seen recs) c.replace.ensures.after ∙ sym (seen-plain recs [] c.in-Ok.slot c.in-Ok.ensures.plain) ∙ c.in-Ok.ensures.slot)

pub returns-clause-given : goal.returns-clause-given
returns-clause-given c =
    let o : IsOpened _ _ _ _ _ _ = record { are = c.self.invariant; is = c.self.view_is; within = c.requires.within } in
    let recs = c.self.inside.recs.items in
    c.into_cell.ensures recs ∙ ap (seen recs) c.replace.ensures.value ∙ slot-cell o c.index_mut.result.now c.index_mut.ensures.value
