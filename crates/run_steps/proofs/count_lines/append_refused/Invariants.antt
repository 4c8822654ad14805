-- The lines of the conditions so far were appended.
use Rattle.std.proofs.Common.{◌≡◌, ◌++◌, map, take, Some}
use Rattle.run_steps.specs.CountLines.{answer_lines}
use Rattle.run_steps.specs.Places.{conditions}
use Rattle.run_steps.proofs.count_lines.append_refused.Given as goal

abbrev pub invariant-loop-i : goal.invariant-loop-i
invariant-loop-i l = l.out.items ≡ l.fn.out.items ++ answer_lines l.command l.counts l.function (map Some (take l.i conditions))
