-- The CPU's calls before this one leave it there.
use Rattle.slicing.specs.Calls.{events_to}
use Rattle.verdict_laws.specs.Placing.{StandsBefore}
use Rattle.slicing.proofs.standing.standing_before.Given as goal

abbrev pub invariant-loop-earlier : goal.invariant-loop-earlier
invariant-loop-earlier l = StandsBefore (events_to l.count l.history.recorded.events) l.cpu l.earlier l.standing
