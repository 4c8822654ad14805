use Rattle.verdict_laws.proofs.Survival.{IsKept-return}
use Rattle.verdict_laws.proofs.exchanges.kept_behind_its_return.Goals as goal

pub returns : goal.returns
returns c = IsKept-return
