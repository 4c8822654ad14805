use Rattle.verdict_laws.proofs.Survival.{AreKept-nil}
use Rattle.verdict_laws.proofs.exchanges.kept_at_first.Goals as goal

pub returns : goal.returns
returns c = AreKept-nil
