use Rattle.rmm_laws.proofs.Accepts.{undelegated-delegated}
use Rattle.rmm_laws.proofs.laws.undelegation_restores.Goals as goal

pub returns : goal.returns
returns c = undelegated-delegated
