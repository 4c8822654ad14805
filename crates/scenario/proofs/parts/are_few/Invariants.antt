use Rattle.std.proofs.Common.{◌≡◌, ◌+◌, drop, length, map, sum}
use Rattle.scenario.specs.SeenPrograms.{seen_programs}
use Rattle.scenario.proofs.parts.are_few.Given as goal

abbrev pub invariant-loop-program : goal.invariant-loop-program
invariant-loop-program l =
    sum (map length (seen_programs l.programs)) + l.left ≡ sum (map length (seen_programs (drop l.program-index l.programs))) + 499999
