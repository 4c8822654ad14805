use Rattle.verdict_laws.proofs.Common.{Keep}
use Rattle.verdict_laws.proofs.Looks.{nowhere_unless_looked}
use Rattle.verdict_laws.proofs.Steps.{nowhere_unless_put}
use Rattle.verdict_laws.proofs.exchanges.nowhere_after_looks.Goals as goal

pub returns : goal.returns
returns c = λ history place cpu number given lines state is_history kept returned lacks looks.
    nowhere_unless_put history is_history place lines state kept cpu number given returned lacks
    (nowhere_unless_looked history is_history place lines state kept (Keep cpu number) looks)
