use Rattle.verdict_laws.proofs.Steps.{nowhere_after_each}
use Rattle.verdict_laws.proofs.exchanges.nowhere_after_each_open_call.Goals as goal

pub returns : goal.returns
returns c = λ history place cpu number given lines state is_history kept.
    nowhere_after_each history is_history place lines state kept cpu number given
