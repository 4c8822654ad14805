-- The slot is the next one, or stays where nothing is done to its register.
use Rattle.std.proofs.Common.{◌+◌, arith, inl, inr, refl, subst, sym}
use Rattle.std.proofs.lemmas.Option.{slice_get_read, slice_get_within}
use Rattle.registers.specs.declared.slots.Slot.{Slot}
use Rattle.registers.specs.Slots.{IsSlot}
use Rattle.registers.proofs.Elements.{slice_get-set_cases}
use Rattle.registers.proofs.SlotLaws.{IsSlotOf-other}
use Rattle.registers.proofs.returns.return_to_slot.Goals as goal

pub returns-in_default-clause-on : goal.returns-in_default-clause-on
returns-in_default-clause-on c = λ on.
    IsSlotOf-other c.args.setting.now.history.now.recorded c.well_formed-fact.ensures c.args.setting.now.owners.now c.args.cpus.now c.args.at.now
    c.args.call.now c.requires.cpus c.requires.call c.args.slot c.args.slots.now.items (sym c.in_default.ensures) c.requires.slot

pub returns-then-slot-len-clause-on : goal.returns-then-slot-len-clause-on
returns-then-slot-len-clause-on c = λ on slot is.
    let within = slice_get_within c.args.slots.now.items c.args.slot slot is in
    absurd (omega (arith, within, c.if-slot-len.true, c.len.ensures, c.args.slots.now.ok.0))

pub next_slot-requires-clause-old : goal.next_slot-requires-clause-old
next_slot-requires-clause-old c =
    c.requires.slot c.index.result.now
    (slice_get_read c.args.slots.now.items c.len.result c.args.slot c.index.result.now (omega (arith, c.len.ensures, c.args.slots.now.ok.0))
    c.if-slot-len.false c.index.ensures)

pub returns-in-Some-next-clause-on : goal.returns-in-Some-next-clause-on
returns-in-Some-next-clause-on c = λ on slot is.
    let next = c.in-Some-next.next in
    elim (slice_get-set_cases c.args.slots.now.items c.args.slot next c.args.slot slot is) [
      | inl here ↦
          subst
          (λ (s : Slot).
          IsSlot c.args.setting.now.history.now.recorded c.args.setting.now.owners.now (c.args.at.now.place + 1) c.args.slot s) (sym here.1)
          (rw c.in-Some-next.is at c.in_ok-next.ensures)
      | inr there ↦ absurd (there.0 refl)
    ]

pub returns-in-Some-next-clause-others : goal.returns-in-Some-next-clause-others
returns-in-Some-next-clause-others c = λ k other apart is.
    elim (slice_get-set_cases c.args.slots.now.items c.args.slot c.in-Some-next.next k other is) [
      | inl here ↦ absurd (apart here.0)
      | inr there ↦ there.1
    ]
