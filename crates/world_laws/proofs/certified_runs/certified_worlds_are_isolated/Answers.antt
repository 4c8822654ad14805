use Rattle.world_laws.proofs.Passed.{isolated-certified, throughout-certified}
use Rattle.world_laws.proofs.certified_runs.certified_worlds_are_isolated.Goals as goal

pub returns-clause-now : goal.returns-clause-now
returns-clause-now c = isolated-certified

pub returns-clause-throughout : goal.returns-clause-throughout
returns-clause-throughout c = throughout-certified
