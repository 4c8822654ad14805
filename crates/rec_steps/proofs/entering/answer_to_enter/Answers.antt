use Rattle.std.proofs.Common.{◌∙◌}
use Rattle.rec_steps.proofs.Steps.{rec_enter-IsHeld}
use Rattle.rec_steps.proofs.entering.answer_to_enter.Goals as goal

pub returns-clause-answer : goal.returns-clause-answer
returns-clause-answer c = λ s address held tagged.
    c.enter_answer.ensures.rows address ∙ rec_enter-IsHeld s c.args.cpu address c.args.realm.now c.args.rec.now held tagged
