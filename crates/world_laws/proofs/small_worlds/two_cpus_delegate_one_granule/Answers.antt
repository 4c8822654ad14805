use Rattle.world_laws.proofs.SmallRuns.{zero_first, one_first}
use Rattle.world_laws.proofs.small_worlds.two_cpus_delegate_one_granule.Goals as goal

pub returns-clause-zero_first : goal.returns-clause-zero_first
returns-clause-zero_first c = zero_first

pub returns-clause-one_first : goal.returns-clause-one_first
returns-clause-one_first c = one_first
