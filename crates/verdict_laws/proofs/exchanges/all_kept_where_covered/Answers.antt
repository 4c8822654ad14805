use Rattle.verdict_laws.proofs.Survival.{AreKept-covered}
use Rattle.verdict_laws.proofs.exchanges.all_kept_where_covered.Goals as goal

pub returns : goal.returns
returns c = AreKept-covered
