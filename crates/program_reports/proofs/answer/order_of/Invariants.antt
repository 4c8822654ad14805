-- What nests no deeper stays so.
use Rattle.std.proofs.Common.{◌≡◌}
use Rattle.program_reports.proofs.answer.order_of.Given as goal

abbrev pub invariant-loop-index : goal.invariant-loop-index
invariant-loop-index l = l.lines.bound ≡ 2
