-- Granules are lent to the realm world and taken back (DEN0137, RMI_GRANULE_DELEGATE and RMI_GRANULE_UNDELEGATE).
use Rattle.std.specs.Prelude.{ℕ, [], Result}
use Rattle.rmm_spec.specs.declared.accepted.Accepted.{Accepted}
use Rattle.rmm_spec.specs.declared.call.Call.TheVariants.{GranuleDelegate, GranuleUndelegate}
use Rattle.rmm_spec.specs.declared.change.Change.TheVariants.{Retagged}
use Rattle.rmm_spec.specs.declared.refusal.Refusal.{Refusal}
use Rattle.rmm_spec.specs.declared.tag.Tag.TheVariants.{Undelegated, Delegated}
use Rattle.rmm_spec.specs.State.{State}
use Rattle.rmm_spec.specs.Rows.{decided, done}
use Rattle.rmm_spec.specs.Step.Front.{with_front}

unfoldable pub granule_delegate : State → ℕ → Result Accepted Refusal
granule_delegate s granule =
    decided (with_front s (GranuleDelegate granule) [])
    (done [] (Retagged (record { granule = granule; tag = Delegated })))

unfoldable pub granule_undelegate : State → ℕ → Result Accepted Refusal
granule_undelegate s granule =
    decided (with_front s (GranuleUndelegate granule) [])
    (done [] (Retagged (record { granule = granule; tag = Undelegated })))
