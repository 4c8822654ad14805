-- The programs so far are of commands.
use Rattle.std.proofs.Common.{drop}
use Rattle.scenario_report.specs.Flaws.{AreOfCommands}
use Rattle.scenario_report.proofs.commands.wrong_command.Given as goal

abbrev pub invariant-loop-cpu : goal.invariant-loop-cpu
invariant-loop-cpu l = AreOfCommands (drop l.cpu l.programs) → AreOfCommands l.programs
