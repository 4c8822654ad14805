use Rattle.std.proofs.Common.{ap, ◌∙◌, subst, sym}
use Rattle.std.specs.Prelude.{IfSome}
use Rattle.rmm_spec.specs.Lookup.{rec_inside}
use Rattle.rmm_spec.specs.Step.{outcome}
use Rattle.rec_steps.specs.Answers.{IsRipasRead}
use Rattle.rec_steps.proofs.Steps.{step_taken}
use Rattle.rec_steps.proofs.inside.realm_call.Goals as goal

pub returns-in-Ok-clause-step : goal.returns-in-Ok-clause-step
returns-in-Ok-clause-step c = λ s cpu inside held read.
    let a = c.args in
    let read_here = subst (λ given. IfSome a.ripas (IsRipasRead s a.rec.now.owner given)) (sym c.call.ensures) read in
    rw (c.apply.ensures.reply, c.apply.ensures.realm, c.apply.ensures.rec)
    (step_taken s cpu (rec_inside s cpu) a.command.now a.realm.now a.rec.now c.in-Ok.step held
    (c.in-Ok.ensures.answer s cpu inside held read_here ∙ ap (outcome s cpu) c.call.ensures))
