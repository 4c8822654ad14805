use Rattle.verdict_laws.proofs.Settled.{nowhere_settled}
use Rattle.verdict_laws.proofs.begun.nowhere_after_a_refusal.Goals as goal

pub returns : goal.returns
returns c = λ history lines state cpu number is_history reached grows refused.
    nowhere_settled history is_history lines state reached cpu number grows refused
