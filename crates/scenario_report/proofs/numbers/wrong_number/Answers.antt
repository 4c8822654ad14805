-- The list is of all numbers.
use Rattle.std.proofs.Common.{List, [], ◌∷◌, sym, subst}
use Rattle.std.specs.List.{AllByRecursion}
use Rattle.std.proofs.lemmas.List.{at_drop_more, drop_all}
use Rattle.scenario_report.specs.declared.key.Number.{Number}
use Rattle.scenario_report.specs.declared.key.Number.TheVariants as number
use Rattle.scenario_report.specs.declared.numbers.Numbers.{Numbers}
use Rattle.scenario_report.specs.Flaws.{AreInRange, IsInRange}
use Rattle.scenario_report.proofs.numbers.wrong_number.Goals as goal

abbrev all_numbers : List Number
all_numbers = number.Granules ∷ number.Cpus ∷ number.Queue ∷ number.Limit ∷ number.Version ∷ []

each : (numbers : Numbers) → AllByRecursion (IsInRange numbers) all_numbers → AreInRange numbers
each numbers all number.Granules = all.0
each numbers all number.Cpus = all.1.0
each numbers all number.Queue = all.1.1.0
each numbers all number.Limit = all.1.1.1.0
each numbers all number.Version = all.1.1.1.1.0

pub loop-number-init : goal.loop-number-init
loop-number-init c = λ all. all

pub loop-number-preserved : goal.loop-number-preserved
loop-number-preserved c = λ rest.
    c.loop-number.invariant (subst (AllByRecursion (IsInRange c.args.numbers.now))
    (sym (at_drop_more (λ numbers. numbers) all_numbers c.loop-number.number-index number.Granules c.loop-number-test.true))
    (c.in_default.ensures.none, rest))

pub returns-clause-none : goal.returns-clause-none
returns-clause-none c =
    each c.args.numbers.now (c.loop-number.invariant (subst (AllByRecursion (IsInRange c.args.numbers.now))
    (sym (drop_all c.loop-number.number-index all_numbers c.loop-number-test.false)) tt))
