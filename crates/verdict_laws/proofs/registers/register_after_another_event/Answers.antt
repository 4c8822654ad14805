use Rattle.verdict_laws.proofs.RegisterParts.{HaveParts-next}
use Rattle.verdict_laws.proofs.registers.register_after_another_event.Goals as goal

pub returns : goal.returns
returns c = λ history register mine place possibilities is_history nothing.
    HaveParts-next history is_history register mine place nothing possibilities
