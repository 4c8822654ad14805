-- What lies in the granules so far has given its granules.
use Rattle.reasons.proofs.Common.{state_of}
use Rattle.spec_machine.specs.View.{tables_at}
use Rattle.reasons.specs.Owners.{Gives, IsGivenBelow}
use Rattle.reasons.proofs.owner_rows.give_all.Given as goal

abbrev pub invariant-loop-number : goal.invariant-loop-number
invariant-loop-number l =
    Gives (state_of l.machine) l.first (IsGivenBelow (state_of l.machine) (tables_at l.machine) l.number) l.fn.rows.items l.rows.items
