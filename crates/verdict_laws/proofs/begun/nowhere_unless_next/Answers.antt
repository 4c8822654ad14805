use Rattle.verdict_laws.proofs.Nowhere.{nowhere_unless}
use Rattle.verdict_laws.proofs.begun.nowhere_unless_next.Goals as goal

pub returns : goal.returns
returns c = λ history lines state line is_history reached. nowhere_unless history is_history lines state reached line
