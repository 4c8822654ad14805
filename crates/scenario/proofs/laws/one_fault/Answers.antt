use Rattle.scenario.proofs.OneFault.{one_fault}
use Rattle.scenario.proofs.laws.one_fault.Goals as goal

pub returns : goal.returns
returns c = one_fault
