use Rattle.verdict_laws.proofs.Steps.{nowhere_unless_put}
use Rattle.verdict_laws.proofs.exchanges.nowhere_at_a_return.Goals as goal

pub returns : goal.returns
returns c = λ history place cpu number given lines state is_history kept.
    nowhere_unless_put history is_history place lines state kept cpu number given
