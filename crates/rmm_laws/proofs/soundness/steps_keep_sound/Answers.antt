use Rattle.rmm_laws.proofs.soundness.steps_keep_sound.Goals as goal
use Rattle.rmm_laws.proofs.Runs.{step_sound}

pub returns : goal.returns
returns c = step_sound
