use Rattle.verdict_laws.proofs.UnreadOrders.{nowhere_extended}
use Rattle.verdict_laws.proofs.unread.nowhere_after_an_extension.Goals as goal

pub returns : goal.returns
returns c = λ history lines state new cpu number is_history nothing reached grows extends.
    nowhere_extended history lines state new cpu number is_history nothing reached grows extends
