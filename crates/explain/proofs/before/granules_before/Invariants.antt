-- Those of the names so far.
use Rattle.explain.proofs.Common.{◌≡◌, State, [], take}
use Rattle.arrayvec.specs.ArrayVec.{array_vec_len}
use Rattle.reasons.specs.Report.{AddsOwners}
use Rattle.explain.specs.Before.{AreGranulesBefore}
use Rattle.explain.proofs.before.granules_before.Given as goal

abbrev pub invariant-loop-i : goal.invariant-loop-i
invariant-loop-i l =
    (array_vec_len l.granules ≡ l.i)
    × ((s : State) → AddsOwners s [] l.owners → AreGranulesBefore s (take l.i l.names) l.granules.items)
