use Rattle.verdict_laws.proofs.Common.{◌≡◌, true}
use Rattle.verdict_laws.proofs.Moves.{Each-at}
use Rattle.verdict_laws.proofs.Looks.{stay_inside}
use Rattle.verdict_laws.proofs.exchanges.looks_stay_in_a_group.Goals as goal

pub returns : goal.returns
returns c = λ history place lines before last old new inside is_history kept is_inside passes look i line.
    Each-at (λ other. inside other ≡ true) before i line
    (stay_inside history is_history place lines old kept inside before last new is_inside passes look)
