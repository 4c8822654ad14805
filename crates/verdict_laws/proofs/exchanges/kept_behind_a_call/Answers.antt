use Rattle.verdict_laws.proofs.Survival.{IsKept-call}
use Rattle.verdict_laws.proofs.exchanges.kept_behind_a_call.Goals as goal

pub returns : goal.returns
returns c = IsKept-call
