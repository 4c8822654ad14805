use Rattle.std.proofs.Common.{ap, ◌∙◌, sym}
use Rattle.rmm_spec.specs.declared.call.Call.TheVariants.{MeasurementExtend}
use Rattle.rmm_spec.specs.Call.{class_of}
use Rattle.rmm_spec.specs.Lookup.{rec_inside}
use Rattle.rmm_spec.specs.State.{RecRecord}
use Rattle.rmm_spec.specs.Step.RealmCall.{answer_to_realm}
use Rattle.rec_steps.specs.Answers.{extension_at}
use Rattle.rec_steps.proofs.Steps.{rec_at-held, outcome-pending, outcome-row}
use Rattle.rec_steps.proofs.inside.extension_inside.Goals as goal

pub returns-then-not-can_call : goal.returns-then-not-can_call
unfolding class_of
returns-then-not-can_call c = λ s cpu values inside held.
    outcome-pending s cpu (MeasurementExtend c.args.index c.args.size values) c.args.rec.now inside held
    (sym c.can_call.ensures ∙ c.if-not-can_call.true) (λ is. cc)

pub returns : goal.returns
unfolding answer_to_realm
returns c = λ s cpu values inside held.
    ap (λ (r : RecRecord). extension_at r.owner values c.extension_of.result) (sym (rec_at-held s (rec_inside s cpu) c.args.rec.now held))
    ∙ c.extension_of.ensures.answer s (rec_inside s cpu) values
    ∙ outcome-row s cpu (MeasurementExtend c.args.index c.args.size values) c.args.rec.now inside held
    (sym c.can_call.ensures ∙ c.if-not-can_call.false) (λ is. cc)
