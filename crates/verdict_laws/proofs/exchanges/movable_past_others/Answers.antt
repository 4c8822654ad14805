use Rattle.verdict_laws.proofs.Looks.{IsMovable-from_passes}
use Rattle.verdict_laws.proofs.exchanges.movable_past_others.Goals as goal

pub returns : goal.returns
returns c = λ history place lines front back moved last old new is_history kept.
    IsMovable-from_passes history is_history place lines old kept front back moved last new
