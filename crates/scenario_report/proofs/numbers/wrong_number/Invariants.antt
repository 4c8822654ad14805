-- The numbers so far are in their ranges.
use Rattle.std.proofs.Common.{drop}
use Rattle.std.specs.List.{AllByRecursion}
use Rattle.scenario_report.specs.Flaws.{IsInRange}
use Rattle.scenario_report.proofs.numbers.wrong_number.Given as goal

abbrev pub invariant-loop-number : goal.invariant-loop-number
invariant-loop-number l =
    AllByRecursion (IsInRange l.numbers) (drop l.number-index l.number-items) → AllByRecursion (IsInRange l.numbers) l.number-items
