use Rattle.verdict_laws.proofs.Groups.{nowhere_unless_inside}
use Rattle.verdict_laws.proofs.exchanges.nowhere_in_a_group.Goals as goal

pub returns : goal.returns
returns c = λ history place cpu number given lines state inside is_history kept returned lacks is_inside passes tries.
    nowhere_unless_inside history is_history place lines state kept cpu number inside is_inside passes tries given returned lacks
