use Rattle.spec_machine.proofs.Common.{◌∙◌, Ok, [], ap, command_seen, done, done_applies, outcome, state_of, sym}
use Rattle.rmm_spec.specs.declared.change.RealmUpdate.TheVariants.{MeasurementExtended}
use Rattle.rmm_spec.specs.Step.RealmCall.{realm_change}
use Rattle.rec_steps.specs.Answers.{extension_at}
use Rattle.spec_machine.proofs.Machines.{machine_sound}
use Rattle.spec_machine.proofs.machine.Machine.offer_inside.Goals as goal

pub update_records-requires : goal.update_records-requires
update_records-requires c =
    let a = c.args in
    let m = a.self.now in
    let s = state_of m in
    let values = c.in-MeasurementExtend.values in
    let update = MeasurementExtended c.in-Ok.extension.index c.in-Ok.extension.size values in
    let is = ap (outcome s a.cpu) (sym c.requires.call ∙ c.in-MeasurementExtend.is)
    ∙ sym (c.extension_inside.ensures s a.cpu values c.requires.inside c.rec_here-rec.ensures)
    ∙ ap (extension_at c.rec_here-rec.result.now.owner values) c.in-Ok.is
    ∙ ap (λ rd. Ok (done [] (realm_change rd update))) (sym c.owner-rd.ensures) in
    done_applies s a.cpu (command_seen a.command) _ _ (machine_sound m) is
