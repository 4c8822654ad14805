use Rattle.verdict_laws.proofs.Passing.{Passes-from_made_apart}
use Rattle.verdict_laws.proofs.making.made_apart_pass.Goals as goal

pub returns : goal.returns
returns c = λ history place lines state line other is_history. Passes-from_made_apart history place lines state line other
