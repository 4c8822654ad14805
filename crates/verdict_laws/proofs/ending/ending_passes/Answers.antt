use Rattle.verdict_laws.proofs.Passing.{Passes-from_ended}
use Rattle.verdict_laws.proofs.ending.ending_passes.Goals as goal

pub returns : goal.returns
returns c = Passes-from_ended
