-- What stands behind the rows on a command's words and granules: its other rows, and what is done where all hold.
use Rattle.std.proofs.Common.{◌≡◌, ℕ, List, refl}
use Rattle.rmm_spec.specs.declared.accepted.Accepted.{Accepted}
use Rattle.rmm_spec.specs.declared.call.Call.{Call}
use Rattle.rmm_spec.specs.declared.call.Call.TheVariants as call
use Rattle.rmm_spec.specs.State.{State}
use Rattle.rmm_spec.specs.Rows.{Row, decided}
use Rattle.rmm_spec.specs.Step.{answer_of, commands}
use Rattle.rmm_spec.specs.Step.Front.{with_front}

-- both are read off the command's definition
unfoldable pub behind : (s : State) (cpu : ℕ) (c : Call)
    → (rows : List Row) × (accepted : Accepted) × (answer_of s cpu c ≡ decided (with_front s c rows) accepted)
unfolding answer_of commands
behind s cpu (call.GranuleDelegate granule) = (_, _, refl)
behind s cpu _ = (_, _, refl)
