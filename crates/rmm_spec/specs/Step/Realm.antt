-- Realms are made, activated and destroyed (DEN0137, RMI_REALM_CREATE, RMI_REALM_ACTIVATE, RMI_REALM_DESTROY).
use Rattle.std.specs.Prelude.{ℕ, Bool, not, [], ◌∷◌, Result, Some, None}
use Rattle.rmm_spec.specs.declared.accepted.Accepted.{Accepted}
use Rattle.rmm_spec.specs.declared.call.Call.TheVariants.{RealmActivate, RealmCreate, RealmDestroy}
use Rattle.rmm_spec.specs.declared.change.Change.TheVariants.{RealmMade, RealmDestroyed, RecordsChanged}
use Rattle.rmm_spec.specs.declared.change.RealmUpdate.TheVariants.{Activated}
use Rattle.rmm_spec.specs.declared.condition.Condition.TheVariants as condition
use Rattle.rmm_spec.specs.declared.refusal.Refusal.{Refusal}
use Rattle.rmm_spec.specs.State.{State}
use Rattle.rmm_spec.specs.Lookup.{allows_hash, realm_at, is_new, is_vmid_used, has_rec}
use Rattle.rmm_spec.specs.Walk.{has_link}
use Rattle.rmm_spec.specs.Rows.{input, decided, done, realm_row}
use Rattle.rmm_spec.specs.Step.Front.{with_front}

-- the rows, where it is told whether a realm has the VMID
abbrev pub realm_create_told : Bool → State → ℕ → ℕ → ℕ → ℕ → ℕ → ℕ → Result Accepted Refusal
realm_create_told used s rd root width level vmid algo =
    decided
    (with_front s (RealmCreate rd root width level vmid algo)
    (input condition.ParamsSupp (allows_hash s.config.version algo)
    ∷ input condition.VmidValid (not used)
    ∷ []))
    (done [] (RealmMade rd root width level vmid algo))

unfoldable pub realm_create : State → ℕ → ℕ → ℕ → ℕ → ℕ → ℕ → Result Accepted Refusal
realm_create s rd root width level vmid algo = realm_create_told (is_vmid_used s vmid) s rd root width level vmid algo

unfoldable pub realm_activate : State → ℕ → Result Accepted Refusal
realm_activate s rd =
    decided
    (with_front s (RealmActivate rd)
    (realm_row condition.RealmState (is_new (realm_at s rd))
    ∷ []))
    (done [] (RecordsChanged (Some (record { rd = rd; update = Activated })) None))

-- the rows, where it is told whether a REC belongs to the realm
abbrev pub realm_destroy_told : Bool → State → ℕ → Result Accepted Refusal
realm_destroy_told owns s rd =
    let realm = realm_at s rd in
    decided
    (with_front s (RealmDestroy rd)
    (realm_row condition.RealmLive (not owns)
    ∷ realm_row condition.RealmLive (not (has_link s rd realm.start_level 0))
    ∷ []))
    (done [] (RealmDestroyed rd realm.root))

unfoldable pub realm_destroy : State → ℕ → Result Accepted Refusal
realm_destroy s rd = realm_destroy_told (has_rec s rd) s rd
