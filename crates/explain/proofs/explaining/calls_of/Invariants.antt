-- The calls so far are counted.
use Rattle.std.proofs.Common.{◌≡◌, ◌≤◌, length, take}
use Rattle.std.specs.List.{filter}
use Rattle.explain.specs.Told.{is_call}
use Rattle.explain.proofs.explaining.calls_of.Given as goal

abbrev pub invariant-loop-place : goal.invariant-loop-place
invariant-loop-place l = record {
  within : l.calls ≤ l.place;
  counted : l.calls ≡ length (filter is_call (take l.place l.history.recorded.events));
}
