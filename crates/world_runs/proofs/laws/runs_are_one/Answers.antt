use Rattle.world_runs.proofs.One.{one-world, one-text}
use Rattle.world_runs.proofs.laws.runs_are_one.Goals as goal

pub returns-clause-world : goal.returns-clause-world
returns-clause-world c = one-world

pub returns-clause-text : goal.returns-clause-text
returns-clause-text c = one-text
