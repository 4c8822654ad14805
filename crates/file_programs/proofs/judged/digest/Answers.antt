use Rattle.std.proofs.lemmas.Result.{IfOk-weaker}
use Rattle.file_programs.proofs.judged.digest.Goals as goal

pub returns : goal.returns
returns c = IfOk-weaker c.format.result _ _ (λ line written. rw c.in_ok-digits.ensures at written) c.format.ensures.ok
