use Rattle.std.proofs.Common.{sym}
use Rattle.spec_machine.proofs.HeldEntries.{stands-found}
use Rattle.spec_machine.proofs.machine.Machine.table_here.Goals as goal

pub returns : goal.returns
returns c =
    let a = c.args in
    stands-found a.self.now.granules a.rd a.level a.number c.in-Some.granule _ (sym c.in-Some.ensures) c.table_in.ensures
