use Rattle.std.proofs.Common.{◌≡◌, ◌++◌, drop}
use Rattle.scenario.specs.CallLines.{program_lines}
use Rattle.scenario.proofs.calls.write_program.Given as goal

abbrev pub invariant-loop-command : goal.invariant-loop-command
invariant-loop-command l = l.out.items ++ program_lines l.cpu (drop l.command-index l.program) ≡ l.initial.out.items ++ program_lines l.cpu l.program
