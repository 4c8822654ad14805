use Rattle.merging.proofs.NameLaws.{IsSome-appeared}
use Rattle.merging.proofs.laws.each_is_named.Goals as goal

pub returns : goal.returns
returns c = IsSome-appeared
