use Rattle.verdict_laws.proofs.Looks.{nowhere_either}
use Rattle.verdict_laws.proofs.exchanges.nowhere_in_either_order.Goals as goal

pub returns : goal.returns
returns c = λ history place lines one other old new is_history kept.
    nowhere_either history is_history place lines old kept one other new
