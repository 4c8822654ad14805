-- Nothing happened yet.
use Rattle.registers.proofs.SlotLaws.{IsSlot-first}
use Rattle.registers.proofs.scan.first_scan.Goals as goal

pub returns : goal.returns
returns c = record {
  cpus = c.first_cpus-cpus.ensures;
  slots = λ k slot is.
      IsSlot-first c.args.setting.now.history.now.recorded c.args.setting.now.owners.now k slot (c.in_ok-slots.ensures k slot is);
}
