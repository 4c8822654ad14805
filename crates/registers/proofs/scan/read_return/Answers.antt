-- The CPU goes on, and what is known stays.
use Rattle.std.proofs.Common.{◌+◌, subst, sym, ℕ}
use Rattle.rmi_view.specs.Seen.{command_seen, reply_seen}
use Rattle.rmm_spec.specs.Linearization.{IsReturned}
use Rattle.registers.specs.Cpus.{AreCpus}
use Rattle.registers.specs.Slots.{AreSlots}
use Rattle.registers.proofs.CpuLaws.{IsReturn-told}
use Rattle.registers.proofs.SlotLaws.{AreSlots-nothing}
use Rattle.registers.proofs.scan.read_return.Goals as goal

pub returns-in-None : goal.returns-in-None
returns-in-None c =
    let history = c.args.setting.now.history.now.recorded in
    let owners = c.args.setting.now.owners.now in
    let at = c.in-Some.at in
    let placed = c.in-Some.ensures.0 in
    let back = sym placed in
    let told = subst (λ (p : ℕ). (cpu : ℕ) × (number : ℕ) × IsReturned history.events p cpu number (reply_seen c.args.reply)) back c.requires.told in
    let returns = IsReturn-told history c.args.scan.now.cpus at (command_seen c.in-Some-command_at.command) (reply_seen c.args.reply)
    c.in-Some.ensures.1 c.in-Some-command_at.ensures.some told in
    let are_cpus = subst (λ (p : ℕ). AreCpus history.events p c.args.scan.now.cpus) back c.requires.scan.cpus in
    let slots = subst (λ (p : ℕ). AreSlots history owners p c.args.scan.now.slots.items) back c.requires.scan.slots in
    record {
      cpus = subst (λ (p : ℕ). AreCpus history.events (p + 1) c.pass_return.new.cpus) placed c.pass_return.ensures;
      slots = subst (λ (p : ℕ). AreSlots history owners (p + 1) c.args.scan.now.slots.items) placed
          (AreSlots-nothing history c.well_formed-fact.ensures owners c.args.scan.now.cpus at (command_seen c.in-Some-command_at.command)
          (reply_seen c.args.reply) are_cpus returns c.args.scan.now.slots.items c.in-None.ensures.none slots);
    }
