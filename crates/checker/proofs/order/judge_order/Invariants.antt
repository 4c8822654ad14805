-- The lines so far are replayed.
use Rattle.std.proofs.Common.{take}
use Rattle.checker.specs.Replay.{IsReplayOf}
use Rattle.checker.proofs.order.judge_order.Given as goal

abbrev pub invariant-loop-i : goal.invariant-loop-i
invariant-loop-i l = IsReplayOf l.replay l.history.recorded (take l.i l.certificate.lines)
