use Rattle.verdict_laws.proofs.UnreadOrders.{nowhere-from_unread}
use Rattle.verdict_laws.proofs.unread.nowhere_unread.Goals as goal

pub returns : goal.returns
returns c = λ history unread is_history is_unread. nowhere-from_unread history unread is_history is_unread
