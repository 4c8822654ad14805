use Rattle.spec_machine.proofs.Common.{◌∙◌, state_in}
use Rattle.spec_machine.proofs.Machines.{machine_sound}
use Rattle.spec_machine.proofs.HeldEntries.{has_entry-table, has_entry-none}
use Rattle.spec_machine.proofs.sight.MachineSight.has_entry.Goals as goal

pub returns-in-Some : goal.returns-in-Some
returns-in-Some c =
    let a = c.args in
    c.has.ensures ∙ has_entry-table a.self.now.granules c.args.self.now.shaped a.rd a.level a.number c.in-Some.table.now a.test c.in-Some.ensures

pub returns-in-None : goal.returns-in-None
returns-in-None c =
    let a = c.args in
    c.has_unlisted.ensures
    ∙ has_entry-none (state_in a.self.now.granules) (machine_sound a.self.now) a.rd a.level a.number c.in-None.ensures a.test
