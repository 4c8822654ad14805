use Rattle.spec_machine.proofs.Common.{◌++◌, ◌∙◌, AreHoused, HeldCells, List, Slot, ap, arith, length, replicate, subst, sym}
use Rattle.rmm_spec.specs.Cell as spec
use Rattle.spec_machine.specs.Held.{cells_held}
use Rattle.spec_machine.proofs.Slots.{held-more, housed-more, length-held}
use Rattle.spec_machine.proofs.slot_list.SlotList.push_block.Goals as goal

pub push_free-requires : goal.push_free-requires
push_free-requires c =
    let t = c.self.inside in
    omega (
      arith,
      c.requires,
      t.slots.ok.0,
      length-held t.slots.items t.recs.items,
      ap (λ (held : HeldCells). length held.items) c.self.view_is,
      ap (λ (held : HeldCells). held.room) c.self.view_is,
    )

pub invariant_of-self : goal.invariant_of-self
invariant_of-self c =
    let t = c.self.inside in
    record {
      housed = subst (λ (slots : List Slot). AreHoused slots t.recs.items) (sym c.push_free.ensures.items)
          (housed-more t.slots.items t.recs.items 512 c.self.invariant.housed);
      rooms = omega (arith, c.push_free.ensures.capacity, c.self.invariant.rooms);
    }

pub returns-clause-items : goal.returns-clause-items
returns-clause-items c =
    let t = c.self.inside in
    ap (λ (slots : List Slot). cells_held slots t.recs.items) c.push_free.ensures.items
    ∙ (held-more t.slots.items t.recs.items 512 ∙ ap (λ (held : HeldCells). held.items ++ replicate 512 spec.Undelegated) c.self.view_is)

pub returns-clause-len : goal.returns-clause-len
returns-clause-len c =
    let t = c.self.inside in
    omega (
      arith,
      length-held c.push_free.new.slots.items t.recs.items,
      c.push_free.new.slots.ok.0,
      c.push_free.ensures.len,
      t.slots.ok.0,
      length-held t.slots.items t.recs.items,
      ap (λ (held : HeldCells). length held.items) c.self.view_is,
    )

pub returns-clause-room : goal.returns-clause-room
returns-clause-room c = c.push_free.ensures.capacity ∙ ap (λ (held : HeldCells). held.room) c.self.view_is
