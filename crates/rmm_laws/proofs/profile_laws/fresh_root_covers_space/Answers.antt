use Rattle.rmm_laws.proofs.Accepts.{fresh-root}
use Rattle.rmm_laws.proofs.profile_laws.fresh_root_covers_space.Goals as goal

pub returns : goal.returns
returns c = fresh-root
