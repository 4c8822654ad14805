use Rattle.spec_machine.proofs.Common.{◌++◌, ◌∙◌, ◌≡◌, AreHoused, List, Slot, [], ap, arith, replicate, sym}
use Rattle.std.proofs.Common.{subst₂}
use Rattle.spec_machine.specs.declared.slot.Slot.TheVariants.{Undelegated}
use Rattle.spec_machine.specs.Held.{cells_held}
use Rattle.spec_machine.proofs.Slots.{held-more, housed-more, housed-none}
use Rattle.spec_machine.proofs.slot_list.SlotList.new.Goals as goal

pub invariant_of-result : goal.invariant_of-result
invariant_of-result c =
    let slots : c.push_free.new.slots.items ≡ [] ++ replicate c.args.count Undelegated =
    c.push_free.ensures.items ∙ ap (λ (old : List Slot). old ++ replicate c.args.count Undelegated) c.in_ok-slots.ensures.items in
    record {
      housed = subst₂ AreHoused (sym slots) (sym c.in_ok-recs.ensures.items) (housed-more [] [] c.args.count housed-none);
      rooms = omega (arith, c.push_free.ensures.capacity, c.in_ok-slots.ensures.exact, c.in_ok-recs.ensures.exact);
    }

pub returns-clause-items : goal.returns-clause-items
unfolding cells_held
returns-clause-items c =
    let slots : c.push_free.new.slots.items ≡ [] ++ replicate c.args.count Undelegated =
    c.push_free.ensures.items ∙ ap (λ (old : List Slot). old ++ replicate c.args.count Undelegated) c.in_ok-slots.ensures.items in
    (λ i. cells_held (slots i) (c.in_ok-recs.ensures.items i)) ∙ held-more [] [] c.args.count
