use Rattle.rmm_laws.proofs.StepLaws.{step-refuses}
use Rattle.rmm_laws.proofs.laws.refusals_change_nothing.Goals as goal

pub returns : goal.returns
returns c = step-refuses
