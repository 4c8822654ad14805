use Rattle.std.proofs.Common.{true, Ok, Err, refl, ap, ◌∙◌, subst, sym}
use Rattle.std.specs.Prelude.{IfSome}
use Rattle.rmm_spec.specs.declared.refusal.Refusal.TheVariants.{Misplaced}
use Rattle.rmm_spec.specs.Lookup.{rec_inside}
use Rattle.rmm_spec.specs.State.{RecRecord}
use Rattle.rmm_spec.specs.Step.{misplacement}
use Rattle.rec_steps.specs.Answers.{answer_at, accepted_at, IsRipasRead}
use Rattle.rec_steps.proofs.Steps.{rec_at-held, realm_at-IsHeld, answered_exit, outcome-pending, outcome-row}
use Rattle.rec_steps.specs.declared.step.RecStep.{RecStep}
use Rattle.rec_steps.proofs.inside.answer_inside.Goals as goal

pub returns-in-Exit-clause-answer : goal.returns-in-Exit-clause-answer
returns-in-Exit-clause-answer c = λ s cpu inside held read.
    ap (λ (step : RecStep). Ok (accepted_at c.args.rec.now.owner (rec_inside s cpu) step)) c.answer_to_exit.ensures
    ∙ answered_exit s cpu c.args.call.now c.args.rec.now _ c.in-Exit.is inside held.has_rec refl

pub returns-then-not-can_call : goal.returns-then-not-can_call
returns-then-not-can_call c = record {
  answer = λ s cpu inside held read.
      ap (λ condition. Err (Misplaced condition)) (c.misplacement.ensures ∙ ap (misplacement true) c.caller_of.ensures)
      ∙ outcome-pending s cpu c.args.call.now c.args.rec.now inside held.has_rec
      (sym c.can_call.ensures ∙ c.if-not-can_call.true) c.in_default.not-Exit;
  fits = tt;
}

pub returns : goal.returns
returns c = record {
  answer = λ s cpu inside held read.
      let here = sym (rec_at-held s (rec_inside s cpu) c.args.rec.now held.has_rec) in
      ap (λ (r : RecRecord). answer_at r.owner (rec_inside s cpu) c.answer_to_call.result) here
      ∙ (c.answer_to_call.ensures.answer s (rec_inside s cpu) (realm_at-IsHeld s (rec_inside s cpu) c.args.realm.now c.args.rec.now held)
      (subst (λ (r : RecRecord). IfSome c.args.ripas (IsRipasRead s r.owner c.args.call.now)) here read)
      ∙ outcome-row s cpu c.args.call.now c.args.rec.now inside held.has_rec
      (sym c.can_call.ensures ∙ c.if-not-can_call.false) c.in_default.not-Exit);
  fits = c.answer_to_call.ensures.fits;
}
