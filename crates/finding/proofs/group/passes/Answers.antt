-- By the calls of both CPUs.
use Rattle.std.proofs.Common.{inl, inr}
use Rattle.finding.proofs.group.passes.Goals as goal

pub returns-in_default : goal.returns-in_default
returns-in_default c = λ _. rw c.in_default.is tt

pub returns-then-may_pass : goal.returns-then-may_pass
returns-then-may_pass g c = rw (g.in-Some.is, g.in-Some-calls.is) (inl (g.may_pass.ensures g.if-may_pass.true))

pub returns-else-may_pass : goal.returns-else-may_pass
returns-else-may_pass g c = rw (g.in-Some.is, g.in-Some-calls.is) (inr (g.ends_last.ensures c))
