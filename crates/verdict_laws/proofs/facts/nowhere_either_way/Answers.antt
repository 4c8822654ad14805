use Rattle.verdict_laws.proofs.EitherWay.{nowhere-either_way}
use Rattle.verdict_laws.proofs.facts.nowhere_either_way.Goals as goal

pub returns : goal.returns
returns c = nowhere-either_way
