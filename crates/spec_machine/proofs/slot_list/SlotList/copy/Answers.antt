use Rattle.std.proofs.Common.{◌∙◌, sym, subst₂, arith}
use Rattle.spec_machine.specs.Held.{held_in, AreHoused}
use Rattle.spec_machine.proofs.slot_list.SlotList.copy.Goals as goal

pub copied_slots-requires : goal.copied_slots-requires
copied_slots-requires c =
    let t = c.self.inside in
    omega (arith, c.capacity-room.ensures, c.as_slice.ensures.len, t.slots.ok.1)

pub invariant_of-result : goal.invariant_of-result
invariant_of-result c =
    let slots = c.in_ok-slots.ensures.items ∙ c.as_slice.ensures.value in
    let recs = c.in_ok-recs.ensures.items ∙ c.as_slice-2.ensures.value in
    record {
      housed = subst₂ AreHoused (sym slots) (sym recs) c.self.invariant.housed;
      rooms = omega (arith, c.in_ok-slots.ensures.room, c.in_ok-recs.ensures.room);
    }

pub returns : goal.returns
returns c =
    let slots = c.in_ok-slots.ensures.items ∙ c.as_slice.ensures.value in
    let recs = c.in_ok-recs.ensures.items ∙ c.as_slice-2.ensures.value in
    let room = c.in_ok-slots.ensures.room ∙ c.capacity-room.ensures in
    (λ i. held_in (slots i) (recs i) (room i)) ∙ c.self.view_is
