use Rattle.verdict_laws.proofs.Nowhere.{nowhere_by}
use Rattle.verdict_laws.proofs.begun.nowhere_by_replies.Goals as goal

pub returns : goal.returns
returns c = λ history lines state line is_history reached. nowhere_by history is_history lines state reached line
