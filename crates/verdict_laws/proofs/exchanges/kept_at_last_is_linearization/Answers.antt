use Rattle.verdict_laws.proofs.Survival.{IsLinearization-kept}
use Rattle.verdict_laws.proofs.exchanges.kept_at_last_is_linearization.Goals as goal

pub returns : goal.returns
returns c = IsLinearization-kept
