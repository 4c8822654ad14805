use Rattle.rmm_laws.proofs.soundness.opening_is_sound.Goals as goal
use Rattle.rmm_laws.proofs.Opening.{opening_sound}

pub returns : goal.returns
returns c = opening_sound
