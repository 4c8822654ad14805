use Rattle.verdict_laws.proofs.Survival.{none_kept}
use Rattle.verdict_laws.proofs.exchanges.none_kept_is_no_order.Goals as goal

pub returns : goal.returns
returns c = none_kept
