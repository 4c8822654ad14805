-- The granules that are lent so far.
use Rattle.std.proofs.Common.{◌≡◌, take}
use Rattle.verdict_laws.specs.Slices.{lending_events}
use Rattle.slicing.proofs.slice.with_lent.Given as goal

abbrev pub invariant-granules : goal.invariant-granules
invariant-granules l = l.lent.recorded ≡ record {
  config = l.history.recorded.config;
  events = lending_events 0 (take l.index l.plan.lent.items);
}
