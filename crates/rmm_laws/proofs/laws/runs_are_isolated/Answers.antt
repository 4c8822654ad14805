use Rattle.rmm_laws.proofs.Isolation.{run-isolated, isolated_throughout}
use Rattle.rmm_laws.proofs.laws.runs_are_isolated.Goals as goal

pub returns-clause-isolated : goal.returns-clause-isolated
returns-clause-isolated c = run-isolated

pub returns-clause-throughout : goal.returns-clause-throughout
returns-clause-throughout c = isolated_throughout
