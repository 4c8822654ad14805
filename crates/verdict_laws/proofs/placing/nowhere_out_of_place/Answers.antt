use Rattle.verdict_laws.proofs.Placed.{nowhere-placed}
use Rattle.verdict_laws.proofs.placing.nowhere_out_of_place.Goals as goal

pub returns : goal.returns
returns c = nowhere-placed
