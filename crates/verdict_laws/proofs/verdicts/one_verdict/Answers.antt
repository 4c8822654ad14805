use Rattle.verdict_laws.proofs.OneVerdict.{one_verdict}
use Rattle.verdict_laws.proofs.verdicts.one_verdict.Goals as goal

pub returns : goal.returns
returns c = one_verdict
