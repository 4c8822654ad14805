-- A condition that is so fails.
use Rattle.explain.proofs.Lates.{fails_so}
use Rattle.explain.specs.Watch.{is_so}
use Rattle.explain.proofs.steps.late_step.Goals as goal
use Rattle.lemmas.proofs.Tests.{and_second-fails}

pub late_commit-requires-clause-fails : goal.late_commit-requires-clause-fails
unfolding is_so
late_commit-requires-clause-fails c = and_second-fails _ _ (fails_so _ _ (rw c.in-Condition.is at c.requires.so))
