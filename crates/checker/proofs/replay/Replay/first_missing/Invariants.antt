-- No call made below the place is missing.
use Rattle.std.proofs.Common.{List}
use Rattle.rmm_spec.specs.declared.line.Line.{Line}
use Rattle.checker.specs.Progress.{AreNamedBelow}
use Rattle.checker.specs.Replay.{IsReplayOf}
use Rattle.checker.proofs.replay.Replay.first_missing.Given as goal

abbrev pub invariant-loop-place : goal.invariant-loop-place
invariant-loop-place l = (lines : List Line) → IsReplayOf l.self l.history.recorded lines → AreNamedBelow l.history.recorded.events lines l.place
