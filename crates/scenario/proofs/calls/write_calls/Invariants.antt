use Rattle.std.proofs.Common.{◌≡◌, ◌++◌, drop}
use Rattle.scenario.specs.SeenPrograms.{seen_programs}
use Rattle.scenario.specs.CallLines.{calls_from}
use Rattle.scenario.proofs.calls.write_calls.Given as goal

abbrev pub invariant-loop-program : goal.invariant-loop-program
invariant-loop-program l =
    (l.cpu ≡ l.program-index)
    × (l.out.items ++ calls_from l.cpu (seen_programs (drop l.program-index l.programs))
    ≡ l.initial.out.items ++ calls_from 0 (seen_programs l.programs))
