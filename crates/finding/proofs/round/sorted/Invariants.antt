-- The orders so far, and those that are left.
use Rattle.std.proofs.Common.{vec_len}
use Rattle.undo_log.specs.Patches.{standing_of}
use Rattle.finding.specs.Begun.{AllLost, AllShelved, IsRound, OrdersLost, RoundLost}
use Rattle.finding.proofs.round.sorted.Given as goal

abbrev pub invariant-orders : goal.invariant-orders
invariant-orders l = record {
  round : IsRound l.history.recorded (standing_of l.fn.kept.machine) l.round;
  left : AllShelved l.history.recorded (standing_of l.fn.kept.machine) l.left.items;
  covers : RoundLost l.history.recorded (standing_of l.fn.kept.machine) l.round
      → AllLost l.history.recorded (standing_of l.fn.kept.machine) l.left.items
      → OrdersLost l.history.recorded l.fn.kept;
}

abbrev pub decreases-orders : goal.decreases-orders
decreases-orders l = vec_len l.left
