use Rattle.std.proofs.Common.{◌↔◌, drop}
use Rattle.std.specs.List.{AllByRecursion}
use Rattle.rmm_spec.specs.CommandText.{IsCommand}
use Rattle.scenario.specs.SeenPrograms.{seen_programs}
use Rattle.scenario.proofs.parts.have_texts.Given as goal

abbrev pub invariant-loop-program : goal.invariant-loop-program
invariant-loop-program l = AllByRecursion (AllByRecursion IsCommand) (seen_programs (drop l.program-index l.programs))
    ↔ AllByRecursion (AllByRecursion IsCommand) (seen_programs l.programs)
