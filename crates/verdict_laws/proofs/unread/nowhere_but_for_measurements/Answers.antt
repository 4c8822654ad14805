use Rattle.verdict_laws.proofs.UnreadOrders.{nowhere_unmeasured}
use Rattle.verdict_laws.proofs.unread.nowhere_but_for_measurements.Goals as goal

pub returns : goal.returns
returns c = λ history one other state also is_history nothing. nowhere_unmeasured history is_history nothing one other state also
