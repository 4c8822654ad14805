-- The places before this one are such.
use Rattle.std.proofs.Common.{ℕ, ◌<◌}
use Rattle.slicing.specs.Calls.{events_to}
use Rattle.slicing.specs.Facts.{IsLeftOrEarly}
use Rattle.slicing.proofs.left.are_left.Given as goal

abbrev pub invariant-loop-at : goal.invariant-loop-at
invariant-loop-at l = (at : ℕ) → at < l.at → IsLeftOrEarly l.turn l.fact (events_to l.count l.history.recorded.events) l.place l.maker at
