use Rattle.merging.proofs.PageLaws.{ArePagesApart-named}
use Rattle.merging.proofs.laws.pages_differ.Goals as goal

pub returns : goal.returns
returns c = ArePagesApart-named
