use Rattle.std.proofs.Common.{refl}
use Rattle.spec_machine.proofs.NearTables.{near-table}
use Rattle.spec_machine.proofs.machine.Machine.table_far.Goals as goal

pub returns-in-Some : goal.returns-in-Some
returns-in-Some c =
    let a = c.args in
    record {
      stands = near-table a.self.now.granules a.self.now.shaped a.rd a.level a.number c.granule-granule.result
          c.in-Some.table.now c.in-Some.ensures (c.if-is_placed.ensures refl);
      held = c.in-Some.ensures;
    }
