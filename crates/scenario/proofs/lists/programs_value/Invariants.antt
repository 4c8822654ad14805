use Rattle.std.proofs.Common.{◌≡◌, ◌++◌, drop, map}
use Rattle.scenario.specs.SeenPrograms.{seen_programs}
use Rattle.scenario.specs.Written.{program_data}
use Rattle.toml.specs.View.{view}
use Rattle.scenario.proofs.lists.programs_value.Given as goal

abbrev pub invariant-loop-program : goal.invariant-loop-program
invariant-loop-program l =
    map view l.values.items ++ map program_data (seen_programs (drop l.program-index l.programs)) ≡ map program_data (seen_programs l.programs)
