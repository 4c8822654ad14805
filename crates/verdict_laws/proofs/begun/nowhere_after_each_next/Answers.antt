use Rattle.verdict_laws.proofs.Nowhere.{nowhere_after}
use Rattle.verdict_laws.proofs.begun.nowhere_after_each_next.Goals as goal

pub returns : goal.returns
returns c = λ history lines state is_history. nowhere_after history is_history lines state
