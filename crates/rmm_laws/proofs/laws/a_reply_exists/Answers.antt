use Rattle.rmm_laws.proofs.StepLaws.{step-exists}
use Rattle.rmm_laws.proofs.laws.a_reply_exists.Goals as goal

pub returns : goal.returns
returns c = step-exists
