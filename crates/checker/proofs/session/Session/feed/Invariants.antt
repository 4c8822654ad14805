use Rattle.std.proofs.Common.{length}
use Rattle.checker.proofs.SessionLaws.{IsFedUpTo}
use Rattle.checker.proofs.session.Session.feed.Given as goal

abbrev pub invariant-loop-rest : goal.invariant-loop-rest
invariant-loop-rest l = IsFedUpTo l.fn.self l.self l.piece l.rest

abbrev pub decreases-loop-rest : goal.decreases-loop-rest
decreases-loop-rest l = length l.rest
