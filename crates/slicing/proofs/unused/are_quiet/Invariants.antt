-- The places before this one are quiet.
use Rattle.std.proofs.Common.{ℕ, ◌<◌, ◌≤◌}
use Rattle.slicing.specs.Calls.{events_to}
use Rattle.slicing.specs.Unused.{IsQuietAt}
use Rattle.slicing.proofs.unused.are_quiet.Given as goal

abbrev pub invariant-loop-place : goal.invariant-loop-place
invariant-loop-place l = (place : ℕ) → place < l.place → l.plan.from ≤ place
    → IsQuietAt (events_to l.count l.history.recorded.events) l.plan l.granule l.last place
