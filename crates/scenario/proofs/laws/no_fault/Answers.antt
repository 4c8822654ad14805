use Rattle.scenario.proofs.OneAnswer.{no_fault}
use Rattle.scenario.proofs.laws.no_fault.Goals as goal

pub returns : goal.returns
returns c = no_fault
