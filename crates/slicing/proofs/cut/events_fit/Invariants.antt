-- The events before this place fit.
use Rattle.std.proofs.Common.{ℕ, ◌<◌, ◌≤◌}
use Rattle.slicing.specs.Calls.{events_to}
use Rattle.slicing.specs.Cuts.{EventFits}
use Rattle.slicing.proofs.cut.events_fit.Given as goal

abbrev pub invariant-loop-place : goal.invariant-loop-place
invariant-loop-place l = (place : ℕ) → place < l.place → l.plan.from ≤ place → EventFits (events_to l.count l.history.recorded.events) l.plan place
