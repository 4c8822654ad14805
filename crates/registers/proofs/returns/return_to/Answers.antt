-- The realm's slots in turn, and no other.
use Rattle.std.proofs.Common.{arith, inl, inr, subst, sym, ◌≢◌, ◌+◌, Some, ℕ}
use Rattle.std.proofs.lemmas.Bool.Decides.{eqb_tells}
use Rattle.std.proofs.lemmas.Option.{none-some, same_Some}
use Rattle.registers.specs.Owners.{rd_at}
use Rattle.registers.specs.Slots.{IsSlotOf}
use Rattle.registers.proofs.SlotLaws.{IsSlotOf-other}
use Rattle.registers.proofs.returns.return_to.Goals as goal

pub returns-in_default-clause-on : goal.returns-in_default-clause-on
returns-in_default-clause-on c = λ on k.
    IsSlotOf-other c.args.setting.now.history.now.recorded c.well_formed-fact.ensures c.args.setting.now.owners.now c.args.cpus.now c.args.at.now
    c.args.call.now c.requires.cpus c.requires.call k c.args.slots.now.items (c.in_default.ensures k (λ same. none-some (rd_at k) same))
    (c.requires.slots k)

pub slots-init : goal.slots-init
slots-init c =
    let first = c.first_of-first.result in
    record {
      left = λ k from to. c.requires.slots k;
      taken = λ k out.
          let apart : Some c.in-Some.rd ≢ Some (rd_at k) = λ same.
          let within = c.first_of-first.ensures.all k (sym (same_Some c.in-Some.rd (rd_at k) same)) in
          let above = out within.0 in
          let below = within.1 in omega (arith, above, below) in
          IsSlotOf-other c.args.setting.now.history.now.recorded c.well_formed-fact.ensures c.args.setting.now.owners.now c.args.cpus.now
          c.args.at.now c.args.call.now c.requires.cpus c.requires.call k c.args.slots.now.items (c.in-Some.ensures k apart) (c.requires.slots k);
    }

pub slots-preserved : goal.slots-preserved
slots-preserved c =
    let history = c.args.setting.now.history.now.recorded in
    let at = c.slots.slot in
    let ensures = c.in_ok-return_to_slot.ensures in
    record {
      left = λ k from to slot is.
          let apart : k ≢ at = λ same. omega (arith, same, from) in
          c.slots.invariant.left k (omega (arith, from)) to slot (ensures.others k slot apart is);
      taken = λ k out slot is. elim (eqb_tells k at) [
        | inl same ↦
            subst (λ (n : ℕ). IsSlotOf history c.args.setting.now.owners.now (c.args.at.now.place + 1) c.return_to_slot.new.slots.items n)
            (sym same.1) (ensures.on c.if-not-branch.false) slot is
        | inr apart ↦
            let differs = apart.1 in
            c.slots.invariant.taken k (λ from. out (omega (arith, from, differs))) slot (ensures.others k slot apart.1 is)
      ];
    }
