-- The facts before this one hold.
use Rattle.std.proofs.Common.{take}
use Rattle.slicing.specs.Calls.{events_to}
use Rattle.verdict_laws.specs.HeldFacts.{AreHeldAt}
use Rattle.slicing.proofs.held.are_held.Given as goal

abbrev pub invariant-loop-fact : goal.invariant-loop-fact
invariant-loop-fact l = AreHeldAt l.turn (take l.fact-index l.facts) (events_to l.count l.history.recorded.events) l.place
