use Rattle.world_laws.proofs.SmallRuns.{stopped_keeps}
use Rattle.world_laws.proofs.small_worlds.a_stopped_cpu_keeps_its_lock.Goals as goal

pub returns : goal.returns
returns c = stopped_keeps
