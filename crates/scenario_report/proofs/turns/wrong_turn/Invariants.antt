-- The texts so far are turns.
use Rattle.std.proofs.Common.{drop}
use Rattle.scenario_report.specs.Flaws.{AreTurns}
use Rattle.scenario_report.proofs.turns.wrong_turn.Given as goal

abbrev pub invariant-loop-index : goal.invariant-loop-index
invariant-loop-index l = AreTurns l.cpus (drop l.index l.turns) → AreTurns l.cpus l.turns
