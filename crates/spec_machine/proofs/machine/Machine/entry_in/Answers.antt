use Rattle.std.proofs.Common.{◌/◌, subst}
use Rattle.std.specs.Option.{option_copied}
use Rattle.spec_machine.specs.Searches.{IsTable}
use Rattle.spec_machine.proofs.HeldEntries.{entry-stands}
use Rattle.spec_machine.proofs.machine.Machine.entry_in.Goals as goal

pub returns-in-Some : goal.returns-in-Some
returns-in-Some c =
    let a = c.args in
    entry-stands a.self.now.granules a.self.now.shaped a.rd a.level a.number c.in-Some.table.now c.entry.result
    (subst (λ o. IsTable a.self.now.granules a.rd a.level (a.number / 512) (option_copied o)) c.in-Some.is c.requires) c.entry.ensures.value
