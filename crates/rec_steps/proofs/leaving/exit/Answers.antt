use Rattle.std.proofs.Common.{ap, ◌∙◌}
use Rattle.rmm_spec.specs.Lookup.{rec_inside}
use Rattle.rmm_spec.specs.Call.{call_of}
use Rattle.rec_steps.specs.Answers.{rec_after}
use Rattle.rec_steps.specs.declared.step.RecStep.{RecStep}
use Rattle.rec_steps.proofs.Steps.{exit_taken, answered_exit}
use Rattle.rec_steps.proofs.leaving.exit.Goals as goal

pub returns : goal.returns
returns c = record {
  step = λ s cpu command is inside held.
      let rec = c.args.rec.now in
      let words = c.answer_to_exit.result.words in
      rw (c.apply_to_rec.ensures.reply, c.apply_to_rec.ensures.rec ∙ ap (λ (step : RecStep). rec_after step.rec rec) c.answer_to_exit.ensures)
      (exit_taken s cpu (rec_inside s cpu) command rec words held
      (answered_exit s cpu (call_of command) rec words is inside held (ap (λ (step : RecStep). step.words.items) c.answer_to_exit.ensures)));
}
