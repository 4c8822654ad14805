use Rattle.verdict_laws.proofs.Short.{length-lines}
use Rattle.verdict_laws.proofs.begun.orders_are_short.Goals as goal

pub returns : goal.returns
returns c = λ history lines state reached. length-lines history.events lines reached.passes.names
