use Rattle.verdict_laws.proofs.Survival.{AreKept-call}
use Rattle.verdict_laws.proofs.exchanges.all_kept_behind_a_call.Goals as goal

pub returns : goal.returns
returns c = AreKept-call
