-- The first one so far comes after.
use Rattle.finding.proofs.Common.{◌<◌}
use Rattle.std.proofs.Common.{IfSome}
use Rattle.finding.proofs.suspecting.next_after.Given as goal

abbrev pub invariant-loop-place : goal.invariant-loop-place
invariant-loop-place l = IfSome l.first (λ first. l.after < first)
