use Rattle.verdict_laws.proofs.EndedPairs.{ended_turned}
use Rattle.verdict_laws.proofs.ending.ending_comes_last.Goals as goal

pub returns : goal.returns
returns c = ended_turned
