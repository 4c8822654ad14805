-- The machine is as it was, and the lines so far were taken.
use Rattle.finding.proofs.Common.{IsRound, RoundLost, take, ◌≡◌}
use Rattle.undo_log.specs.Patches.{standing_of}
use Rattle.finding.specs.Begun.{Covers, state_from}
use Rattle.finding.specs.Waiting.{AllLeadNowhere}
use Rattle.finding.proofs.round.Round.take_lines.Given as goal

abbrev pub invariant-lines : goal.invariant-lines
invariant-lines l = record {
  base : standing_of l.machine ≡ standing_of l.fn.machine;
  round : IsRound l.history.recorded (standing_of l.fn.machine) l.self;
  covers : Covers l.history.recorded (standing_of l.fn.machine) l.fn.self l.self;
  taken : RoundLost l.history.recorded (standing_of l.fn.machine) l.self
      → AllLeadNowhere l.history.recorded l.order.front.counts (state_from (standing_of l.fn.machine) l.order) (take l.next-index l.lines);
}
