use Rattle.std.proofs.Common.{◌≡◌, ◌++◌, drop}
use Rattle.scenario.specs.SeenPrograms.{seen_programs}
use Rattle.scenario.proofs.scenario.copied_programs.Given as goal

abbrev pub invariant-loop-program : goal.invariant-loop-program
invariant-loop-program l = seen_programs l.copied.items ++ seen_programs (drop l.program-index l.programs) ≡ seen_programs l.programs
