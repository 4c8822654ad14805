use Rattle.scenario.proofs.OneScenario.{one_scenario}
use Rattle.scenario.proofs.laws.one_scenario.Goals as goal

pub returns : goal.returns
returns c = one_scenario
