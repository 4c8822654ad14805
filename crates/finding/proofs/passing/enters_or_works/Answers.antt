-- By which of them enters or leaves.
use Rattle.finding.specs.MayPass.{Enters, Works}
use Rattle.finding.proofs.passing.enters_or_works.Goals as goal

pub returns-then-are_beside : goal.returns-then-are_beside
returns-then-are_beside c = λ _. Enters (c.are_beside.ensures c.if-are_beside.true)

pub returns : goal.returns
returns c = λ beside. Works (c.are_beside-2.ensures beside)
