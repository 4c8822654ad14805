use Rattle.rmm_laws.proofs.RunLaws.{run-take}
use Rattle.rmm_laws.proofs.laws.first_parts_are_runs.Goals as goal

pub returns : goal.returns
returns c = run-take
