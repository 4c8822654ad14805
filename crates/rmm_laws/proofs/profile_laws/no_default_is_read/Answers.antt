use Rattle.rmm_laws.proofs.Presence.{run-present}
use Rattle.rmm_laws.proofs.profile_laws.no_default_is_read.Goals as goal

pub returns : goal.returns
returns c = run-present
