use Rattle.spec_machine.proofs.Common.{◌∙◌, ap, is_some}
use Rattle.spec_machine.proofs.Machines.{machine_sound}
use Rattle.spec_machine.proofs.sight.MachineSight.realm.Goals as goal

pub returns-clause-tagged : goal.returns-clause-tagged
returns-clause-tagged c =
    let m = c.args.self.now in
    ap is_some (c.copied.ensures ∙ c.realm_in.ensures) ∙ (machine_sound m).realms.tagged c.args.rd
