-- How a report begins: whether the scenario is good, or the number of its fault.
use Rattle.std.specs.Prelude.{ℕ, List, [], codes, Option, Some, None}
use Rattle.scenario.specs.declared.fault.ScenarioFault.{ScenarioFault}
use Rattle.scenario.specs.declared.fault.ScenarioFault.TheVariants as fault

abbrev pub first_line : Option ScenarioFault → List ℕ
first_line None = codes "scenario good\n"
first_line (Some fault.NoDocument) = codes "scenario 1\n"
first_line (Some fault.WrongKey) = codes "scenario 2\n"
first_line (Some fault.OutOfRange) = codes "scenario 3\n"
first_line (Some fault.NoCommand) = codes "scenario 4\n"
first_line (Some fault.NoTurn) = codes "scenario 5\n"
first_line (Some fault.NoMemory) = []
