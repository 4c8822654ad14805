use Rattle.spec_machine.proofs.Common.{◌∙◌, ap, is_some}
use Rattle.spec_machine.proofs.Machines.{machine_sound}
use Rattle.spec_machine.proofs.sight.MachineSight.rec.Goals as goal

pub returns-clause-tagged : goal.returns-clause-tagged
returns-clause-tagged c =
    let m = c.args.self.now in
    ap is_some (c.copied.ensures ∙ c.rec_in.ensures) ∙ (machine_sound m).recs.tagged c.args.address
