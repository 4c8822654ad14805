use Rattle.std.proofs.Common.{◌≡◌, ◌++◌, drop}
use Rattle.scenario.proofs.scenario.copied_program.Given as goal

abbrev pub invariant-loop-command : goal.invariant-loop-command
invariant-loop-command l = l.copied.items ++ drop l.command-index l.program ≡ l.program
