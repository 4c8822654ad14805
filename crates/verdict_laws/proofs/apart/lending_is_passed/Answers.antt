use Rattle.verdict_laws.proofs.Passing.{Passes-from_lent}
use Rattle.verdict_laws.proofs.apart.lending_is_passed.Goals as goal

pub returns : goal.returns
returns c = λ history place lines state line other granule is_history.
    Passes-from_lent history place lines state line other granule
