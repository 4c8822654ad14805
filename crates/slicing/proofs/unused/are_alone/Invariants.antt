-- At the places before this one nothing else makes or ends the same.
use Rattle.std.proofs.Common.{ℕ, ◌<◌, ◌≤◌}
use Rattle.slicing.specs.Calls.{events_to}
use Rattle.slicing.specs.Unused.{IsAloneAt}
use Rattle.slicing.proofs.unused.are_alone.Given as goal

abbrev pub invariant-loop-place : goal.invariant-loop-place
invariant-loop-place l = (place : ℕ) → place < l.place → l.plan.from ≤ place
    → IsAloneAt (events_to l.count l.history.recorded.events) l.maker l.ender l.ended.returned l.ended.call place
