-- Each kind of test has its fact.
use Rattle.reasons.specs.Tests.{passes}
use Rattle.explain.proofs.fact.fact_of.Goals as goal

pub tag_fact-requires-clause-fails : goal.tag_fact-requires-clause-fails
unfolding passes
tag_fact-requires-clause-fails c = rw c.in-Tagged.is at c.requires.fails

pub returns-in-OfWalk : goal.returns-in-OfWalk
returns-in-OfWalk c = rw c.in-OfWalk.is (c.walk_fact.ensures c.in-OfWalk.asked)
