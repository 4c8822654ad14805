use Rattle.verdict_laws.proofs.RegisterParts.{HaveParts-first}
use Rattle.verdict_laws.proofs.registers.register_at_first.Goals as goal

pub returns : goal.returns
returns c = HaveParts-first
