use Rattle.std.proofs.Common.{Ok, ap, ◌∙◌}
use Rattle.rec_steps.specs.Answers.{accepted_at}
use Rattle.rec_steps.specs.declared.step.RecStep.{RecStep}
use Rattle.command_rows.proofs.Records.{exit-row}
use Rattle.command_rows.proofs.inside.left.Goals as goal

pub returns : goal.returns
returns g c =
    let s = g.S.Sight.state c.args.sight.now in
    c.accepted_at.ensures ∙ ap (λ (step : RecStep). Ok (accepted_at c.owner.result c.args.address step)) c.answer_to_exit.ensures
    ∙ exit-row s c.args.address c.rec_at-rec.result c.rec_at-rec.ensures
