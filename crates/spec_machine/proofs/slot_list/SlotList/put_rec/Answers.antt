use Rattle.spec_machine.proofs.Common.{◌∙◌, AreHoused, HousedRec, List, Slot, ap, arith, refl, seen, sym, vec_capacity}
use Rattle.std.proofs.Common.{subst₂}
use Rattle.std.specs.Prelude.{slice_set}
use Rattle.spec_machine.specs.Held.{held_in, number_of}
use Rattle.spec_machine.proofs.Slots.{fewer-recs, held-made, housed-made, in_slots, no_rec-number, slot-cell, slot-number, IsOpened}
use Rattle.spec_machine.proofs.slot_list.SlotList.put_rec.Goals as goal

pub push_reserved-requires : goal.push_reserved-requires
push_reserved-requires c =
    let o : IsOpened _ _ _ _ _ _ = record { are = c.self.invariant; is = c.self.view_is; within = c.requires.within } in
    let t = c.self.inside in
    let fewer =
    fewer-recs t.slots.items t.recs.items c.args.place c.self.invariant.housed (in_slots o) (no_rec-number o c.requires.plain) in
    omega (arith, fewer, t.slots.ok.0, t.slots.ok.1, t.recs.ok.0, c.self.invariant.rooms)

pub index_mut-requires : goal.index_mut-requires
index_mut-requires c =
    let o : IsOpened _ _ _ _ _ _ = record { are = c.self.invariant; is = c.self.view_is; within = c.requires.within } in
    omega (arith, in_slots o, c.self.inside.slots.ok.0)

pub into_cell-requires : goal.into_cell-requires
into_cell-requires c =
    let o : IsOpened _ _ _ _ _ _ = record { are = c.self.invariant; is = c.self.view_is; within = c.requires.within } in
    ap number_of c.replace.ensures.value
    ∙ slot-number c.self.inside.slots.items c.args.place c.index_mut.result.now (in_slots o) c.index_mut.ensures.value
    ∙ no_rec-number o c.requires.plain

pub invariant_of-self : goal.invariant_of-self
invariant_of-self c =
    let o : IsOpened _ _ _ _ _ _ = record { are = c.self.invariant; is = c.self.view_is; within = c.requires.within } in
    let t = c.self.inside in
    record {
      housed = subst₂ (λ (s : Slot) (recs : List HousedRec). AreHoused (slice_set t.slots.items c.args.place s) recs)
          (sym c.replace.ensures.after) (sym c.push_reserved.ensures.items)
          (housed-made t.slots.items t.recs.items c.args.place c.len-number.result
          (record { rec = c.args.rec; home = c.args.place }) c.self.invariant.housed (in_slots o)
          (no_rec-number o c.requires.plain) refl (c.len-number.ensures ∙ t.recs.ok.0));
      rooms = omega (arith, c.self.invariant.rooms, c.push_reserved.ensures.capacity);
    }

pub returns-clause-put : goal.returns-clause-put
returns-clause-put c =
    let o : IsOpened _ _ _ _ _ _ = record { are = c.self.invariant; is = c.self.view_is; within = c.requires.within } in
    let t = c.self.inside in
    (λ i. held_in (slice_set t.slots.items c.args.place (c.replace.ensures.after i)) (c.push_reserved.ensures.items i) (vec_capacity t.slots))
    ∙ held-made t.slots.items t.recs.items c.args.place c.len-number.result
    (record { rec = c.args.rec; home = c.args.place }) c.self.invariant.housed (in_slots o)
    (no_rec-number o c.requires.plain) refl (c.len-number.ensures ∙ t.recs.ok.0)
    (vec_capacity t.slots) c.args.self.now c.self.view_is

pub returns-clause-given : goal.returns-clause-given
returns-clause-given c =
    let o : IsOpened _ _ _ _ _ _ = record { are = c.self.invariant; is = c.self.view_is; within = c.requires.within } in
    let recs = c.self.inside.recs.items in
    c.into_cell.ensures recs ∙ ap (seen recs) c.replace.ensures.value ∙ slot-cell o c.index_mut.result.now c.index_mut.ensures.value
