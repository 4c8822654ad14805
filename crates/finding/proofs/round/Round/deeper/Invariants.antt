-- The machine is where it was; the orders so far, and those that are left.
use Rattle.std.proofs.Common.{◌≡◌, vec_len}
use Rattle.undo_log.specs.Patches.{standing_of}
use Rattle.finding.specs.Begun.{AllLost, AllShelved, IsRound, RoundLost}
use Rattle.finding.proofs.round.Round.deeper.Given as goal

abbrev pub invariant-orders : goal.invariant-orders
invariant-orders g l = record {
  there : standing_of l.machine ≡ standing_of l.fn.machine;
  round : IsRound l.history.recorded (standing_of l.fn.machine) l.round;
  left : AllShelved l.history.recorded (standing_of l.fn.machine) l.left.items;
  covers : RoundLost l.history.recorded (standing_of l.fn.machine) l.round → AllLost l.history.recorded (standing_of l.fn.machine) l.left.items
      → RoundLost l.history.recorded (standing_of l.fn.machine) l.fn.self;
}

abbrev pub decreases-orders : goal.decreases-orders
decreases-orders g l = vec_len l.left
