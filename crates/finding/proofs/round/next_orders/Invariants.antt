-- The machine is where it was; the orders so far.
use Rattle.std.proofs.Common.{◌≡◌}
use Rattle.undo_log.specs.Patches.{standing_of}
use Rattle.finding.specs.Begun.{IsRound, RoundLost}
use Rattle.finding.proofs.round.next_orders.Given as goal

abbrev pub invariant-depths : goal.invariant-depths
invariant-depths g l = record {
  there : standing_of l.machine ≡ standing_of l.fn.machine;
  round : IsRound l.history.recorded (standing_of l.fn.machine) l.round;
  covers : RoundLost l.history.recorded (standing_of l.fn.machine) l.round → RoundLost l.history.recorded (standing_of l.fn.machine) l.fn.first;
}
