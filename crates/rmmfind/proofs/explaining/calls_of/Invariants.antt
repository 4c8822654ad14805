-- No more calls than lines.
use Rattle.std.proofs.Common.{◌≤◌}
use Rattle.rmmfind.proofs.explaining.calls_of.Given as goal

abbrev pub invariant-loop-i : goal.invariant-loop-i
invariant-loop-i l = l.calls ≤ l.i
