use Rattle.verdict_laws.proofs.Looks.{nowhere_moved}
use Rattle.verdict_laws.proofs.exchanges.nowhere_with_a_movable_call.Goals as goal

pub returns : goal.returns
returns c = λ history place lines front back moved old new is_history kept.
    nowhere_moved history is_history place lines old kept front back moved new
