use Rattle.std.proofs.Common.{◌≡◌, ◌+◌, drop, length, map, sum}
use Rattle.scenario.specs.SeenTexts.{seen_lists}
use Rattle.scenario.proofs.limits.are_few.Given as goal

abbrev pub invariant-loop-program : goal.invariant-loop-program
invariant-loop-program l =
    sum (map length (seen_lists l.programs)) + l.left ≡ sum (map length (seen_lists (drop l.program-index l.programs))) + 499999
