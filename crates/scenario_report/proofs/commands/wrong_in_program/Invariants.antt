-- The texts so far are commands.
use Rattle.std.proofs.Common.{drop}
use Rattle.scenario_report.specs.Flaws.{AreCommands}
use Rattle.scenario_report.proofs.commands.wrong_in_program.Given as goal

abbrev pub invariant-loop-number : goal.invariant-loop-number
invariant-loop-number l = AreCommands (drop l.number l.texts) → AreCommands l.texts
