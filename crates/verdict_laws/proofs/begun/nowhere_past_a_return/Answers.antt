use Rattle.verdict_laws.proofs.Nowhere.{nowhere_past}
use Rattle.verdict_laws.proofs.begun.nowhere_past_a_return.Goals as goal

pub returns : goal.returns
returns c = λ history lines state line cpu number is_history reached. nowhere_past history is_history lines state reached line cpu number
