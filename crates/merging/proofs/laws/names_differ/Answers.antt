use Rattle.merging.proofs.NameLaws.{AreApart-names, AreBelow-names}
use Rattle.merging.proofs.laws.names_differ.Goals as goal

pub returns-clause-apart : goal.returns-clause-apart
returns-clause-apart c = AreApart-names

pub returns-clause-below : goal.returns-clause-below
returns-clause-below c = AreBelow-names
