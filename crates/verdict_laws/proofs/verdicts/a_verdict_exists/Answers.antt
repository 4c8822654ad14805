use Rattle.verdict_laws.proofs.SomeVerdict.{a_verdict_exists}
use Rattle.verdict_laws.proofs.verdicts.a_verdict_exists.Goals as goal

pub returns : goal.returns
returns c = a_verdict_exists
