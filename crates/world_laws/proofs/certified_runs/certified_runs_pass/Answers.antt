use Rattle.world_laws.proofs.Passed.{texts-run, judged-run}
use Rattle.world_laws.proofs.certified_runs.certified_runs_pass.Goals as goal

pub returns-clause-texts : goal.returns-clause-texts
returns-clause-texts c = texts-run

pub returns-clause-judged : goal.returns-clause-judged
returns-clause-judged c = judged-run
