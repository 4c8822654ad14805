-- RECs, the virtual CPUs of a realm, are made, entered and destroyed (DEN0137, RMI_REC_CREATE, RMI_REC_DESTROY, RMI_REC_ENTER).
use Rattle.std.specs.Prelude.{ℕ, not, nat_lt, ◌==◌, [], ◌∷◌, Result, Some, None, is_none}
use Rattle.rmm_spec.specs.declared.accepted.Accepted.{Accepted}
use Rattle.rmm_spec.specs.declared.call.Call.TheVariants.{RecCreate, RecDestroy, RecEnter}
use Rattle.rmm_spec.specs.declared.change.Change.TheVariants.{RecMade, RecDestroyed, RecordsChanged}
use Rattle.rmm_spec.specs.declared.change.RecUpdate.TheVariants.{Entered}
use Rattle.rmm_spec.specs.declared.condition.Condition.TheVariants as condition
use Rattle.rmm_spec.specs.declared.refusal.Refusal.{Refusal}
use Rattle.rmm_spec.specs.declared.refusal.Refusal.TheVariants.{Realm}
use Rattle.rmm_spec.specs.State.{State}
use Rattle.rmm_spec.specs.Lookup.{realm_at, rec_at, request_of, is_new, is_system_off}
use Rattle.rmm_spec.specs.Rows.{input, decided, done, realm_row, rec_row, row}
use Rattle.rmm_spec.specs.Step.Front.{with_front}

unfoldable pub rec_create : State → ℕ → ℕ → ℕ → ℕ → ℕ → ℕ → Result Accepted Refusal
rec_create s rd rec mpidr flags aux0 aux1 =
    let realm = realm_at s rd in
    decided
    (with_front s (RecCreate rd rec mpidr flags aux0 aux1)
    (realm_row condition.RealmState (is_new realm)
    ∷ input condition.MpidrIndex (mpidr == realm.next_index)
    ∷ input condition.OwnRecCount (nat_lt mpidr 8)
    ∷ []))
    (done [] (RecMade rd rec mpidr flags aux0 aux1))

unfoldable pub rec_destroy : State → ℕ → Result Accepted Refusal
rec_destroy s rec =
    let old = rec_at s rec in
    decided
    (with_front s (RecDestroy rec)
    (rec_row condition.RecState (is_none old.cpu)
    ∷ []))
    (done [] (RecDestroyed rec old.aux0 old.aux1))

unfoldable pub rec_enter : State → ℕ → ℕ → Result Accepted Refusal
rec_enter s cpu rec =
    let old = rec_at s rec in
    let realm = realm_at s old.owner in
    decided
    (with_front s (RecEnter rec)
    (realm_row condition.RealmNew (not (is_new realm))
    ∷ row (Realm condition.SystemOff 1) (not (is_system_off realm))
    ∷ rec_row condition.RecState (is_none old.cpu)
    ∷ rec_row condition.RecRunnable old.runnable
    ∷ []))
    (done ((request_of old).base ∷ []) (RecordsChanged None (Some (record { rec = rec; update = Entered cpu }))))
