-- The lines of the functions so far were appended.
use Rattle.std.proofs.Common.{◌≡◌, ℕ, ◌++◌, List, take}
use Rattle.rmm_spec.specs.Function.{functions}
use Rattle.run_steps.specs.CountLines.{AreCountLines}
use Rattle.run_steps.proofs.count_lines.append_counts.Given as goal

abbrev pub invariant-loop-i : goal.invariant-loop-i
invariant-loop-i l = (text : List ℕ) × AreCountLines l.counts (take l.i functions) text × (l.out.items ≡ l.fn.out.items ++ text)
