use Rattle.rmm_laws.proofs.StepLaws.{step-decides}
use Rattle.rmm_laws.proofs.laws.reply_decides.Goals as goal

pub returns : goal.returns
returns c = step-decides
