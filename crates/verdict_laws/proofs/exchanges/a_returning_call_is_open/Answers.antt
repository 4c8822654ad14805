use Rattle.verdict_laws.proofs.Steps.{returning_open}
use Rattle.verdict_laws.proofs.exchanges.a_returning_call_is_open.Goals as goal

pub returns : goal.returns
returns c = λ history place cpu number given lines state is_history kept.
    returning_open history is_history place lines state kept cpu number given
