use Rattle.std.proofs.Common.{◌∙◌}
use Rattle.rmm_spec.specs.Call.{call_of}
use Rattle.rec_steps.proofs.Steps.{step_taken, step_refused, outcome-enter}
use Rattle.rec_steps.proofs.entering.enter.Goals as goal

pub returns-in-Ok-clause-step : goal.returns-in-Ok-clause-step
returns-in-Ok-clause-step c = λ s address command is outside tagged held.
    let a = c.args in
    rw (c.apply.ensures.reply, c.apply.ensures.realm, c.apply.ensures.rec)
    (step_taken s a.cpu address command a.realm.now a.rec.now c.in-Ok.step held
    (c.in-Ok.ensures.answer s address held tagged ∙ outcome-enter s a.cpu address (call_of command) is outside))

pub returns-in-Err-clause-step : goal.returns-in-Err-clause-step
returns-in-Err-clause-step c = λ s address command is outside tagged held.
    let a = c.args in
    rw c.reply.ensures
    (step_refused s a.cpu address command a.realm.now a.rec.now c.in-Err.refusal held
    (c.in-Err.ensures.answer s address held tagged ∙ outcome-enter s a.cpu address (call_of command) is outside))
