use Rattle.verdict_laws.proofs.Growth.{IsLinearization-from_Reaches}
use Rattle.verdict_laws.proofs.begun.grown_order_is_linearization.Goals as goal

pub returns : goal.returns
returns c = IsLinearization-from_Reaches
