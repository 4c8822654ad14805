-- Up to the first one so far there is no order.
use Rattle.std.proofs.Common.{IfSome}
use Rattle.finding.specs.Found.{HasNoneUpTo}
use Rattle.finding.proofs.slices.first_denied.Given as goal

abbrev pub invariant-loop-returned : goal.invariant-loop-returned
invariant-loop-returned l = IfSome l.first (HasNoneUpTo l.history.recorded)
