-- What nests no deeper stays so.
use Rattle.std.proofs.Common.{◌≡◌}
use Rattle.program_reports.proofs.explanation.put_unfinished.Given as goal

abbrev pub invariant-loop-call : goal.invariant-loop-call
invariant-loop-call l = l.calls.bound ≡ 3
