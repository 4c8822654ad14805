use Rattle.world_laws.proofs.Settled.{settled-local}
use Rattle.world_laws.proofs.walks.settled_walks_are_local.Goals as goal

pub returns : goal.returns
returns c = settled-local
