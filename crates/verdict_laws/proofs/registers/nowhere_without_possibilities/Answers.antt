use Rattle.verdict_laws.proofs.RegisterParts.{LeadsNowhere-impossible}
use Rattle.verdict_laws.proofs.registers.nowhere_without_possibilities.Goals as goal

pub returns : goal.returns
returns c = LeadsNowhere-impossible
