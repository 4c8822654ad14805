use Rattle.verdict_laws.proofs.Passing.{Passes-from_ending}
use Rattle.verdict_laws.proofs.ending.ending_is_passed.Goals as goal

pub returns : goal.returns
returns c = λ history place lines state line other is_history.
    Passes-from_ending history place lines state line other
