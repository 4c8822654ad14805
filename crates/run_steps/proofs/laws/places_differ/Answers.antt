-- A place is of one function and of one answer.
use Rattle.run_steps.proofs.PlaceLaws.{same_function, same_place, same_refused}
use Rattle.run_steps.proofs.laws.places_differ.Goals as goal

pub returns-clause-function : goal.returns-clause-function
returns-clause-function c called other refused failed same = same_function called other (same_place called other refused failed same).0

pub returns-clause-condition : goal.returns-clause-condition
returns-clause-condition c called other refused failed same = same_refused refused failed (same_place called other refused failed same).1
