use Rattle.world_laws.proofs.Locals.{step-is_local}
use Rattle.world_laws.proofs.local_laws.local_on_any_hold.Goals as goal

pub returns : goal.returns
returns c = step-is_local
