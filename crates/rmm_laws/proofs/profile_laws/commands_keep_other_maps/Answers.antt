use Rattle.rmm_laws.proofs.StepLaws.{step-keeps}
use Rattle.rmm_laws.proofs.profile_laws.commands_keep_other_maps.Goals as goal

pub returns : goal.returns
returns c = step-keeps
