use Rattle.verdict_laws.proofs.Passing.{Passes-from_done_lending}
use Rattle.verdict_laws.proofs.apart.done_lending_passes.Goals as goal

pub returns : goal.returns
returns c = λ history place lines state line other granule is_history.
    Passes-from_done_lending history place lines state line other granule
