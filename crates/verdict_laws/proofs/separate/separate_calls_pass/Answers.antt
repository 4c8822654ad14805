use Rattle.verdict_laws.proofs.Passing.{Passes-from_separate}
use Rattle.verdict_laws.proofs.separate.separate_calls_pass.Goals as goal

pub returns : goal.returns
returns c = λ history place lines state line other. Passes-from_separate history place lines state line other
