-- What nests no deeper stays so.
use Rattle.std.proofs.Common.{◌≡◌}
use Rattle.program_reports.proofs.call.words_of.Given as goal

abbrev pub invariant-loop-index : goal.invariant-loop-index
invariant-loop-index l = l.object.bound ≡ 0
