-- The places before this one are such.
use Rattle.std.proofs.Common.{ℕ, ◌<◌}
use Rattle.slicing.specs.Calls.{events_to}
use Rattle.slicing.specs.Facts.{IsLeftOrBeside}
use Rattle.slicing.proofs.beside.are_left_beside.Given as goal

abbrev pub invariant-loop-at : goal.invariant-loop-at
invariant-loop-at l = (at : ℕ) → at < l.at → IsLeftOrBeside l.turn l.fact (events_to l.count l.history.recorded.events) l.place l.maker at
