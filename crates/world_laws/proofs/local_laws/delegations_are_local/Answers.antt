use Rattle.world_laws.proofs.Retagged.{delegate-is_local, undelegate-is_local}
use Rattle.world_laws.proofs.local_laws.delegations_are_local.Goals as goal

pub returns-clause-delegated : goal.returns-clause-delegated
returns-clause-delegated c = delegate-is_local

pub returns-clause-undelegated : goal.returns-clause-undelegated
returns-clause-undelegated c = undelegate-is_local
