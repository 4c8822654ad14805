use Rattle.rmm_laws.proofs.soundness.changes_keep_sound.Goals as goal
use Rattle.rmm_laws.proofs.Changes.{changed_sound}

pub returns : goal.returns
returns c = changed_sound
