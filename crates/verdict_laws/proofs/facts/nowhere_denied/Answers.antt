use Rattle.verdict_laws.proofs.FactOrders.{nowhere-denied}
use Rattle.verdict_laws.proofs.facts.nowhere_denied.Goals as goal

pub returns : goal.returns
returns c = nowhere-denied
