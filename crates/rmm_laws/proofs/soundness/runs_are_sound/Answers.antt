use Rattle.rmm_laws.proofs.soundness.runs_are_sound.Goals as goal
use Rattle.rmm_laws.proofs.Runs.{opened_run_sound}

pub returns : goal.returns
returns c = opened_run_sound
