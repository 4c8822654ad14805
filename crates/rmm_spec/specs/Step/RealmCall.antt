-- What a realm asks of the monitor from inside a REC, and how a REC leaves to its host
-- (DEN0137, RSI commands and REC exit; PSCI CPU_OFF and SYSTEM_OFF). Exit as a command is this project's own.
-- Each speaks of the REC at an address: the one that runs on the calling CPU.
use Rattle.std.specs.Prelude.{⊤, ℕ, nat_lt, nat_le, ◌==◌, if◌then◌else◌, List, [], ◌∷◌, Result, Err, Option, Some, None}
use Rattle.rmm_spec.specs.declared.accepted.Accepted.{Accepted}
use Rattle.rmm_spec.specs.declared.call.Call.{Call}
use Rattle.rmm_spec.specs.declared.call.Call.TheVariants as call
use Rattle.rmm_spec.specs.declared.change.Change.{Change}
use Rattle.rmm_spec.specs.declared.change.Change.TheVariants.{Unchanged, RecordsChanged}
use Rattle.rmm_spec.specs.declared.change.RealmUpdate.{RealmUpdate}
use Rattle.rmm_spec.specs.declared.change.RealmUpdate.TheVariants as realm_update
use Rattle.rmm_spec.specs.declared.change.RecUpdate.{RecUpdate}
use Rattle.rmm_spec.specs.declared.change.RecUpdate.TheVariants as rec_update
use Rattle.rmm_spec.specs.declared.condition.Condition.TheVariants as condition
use Rattle.rmm_spec.specs.declared.refusal.Refusal.{Refusal}
use Rattle.rmm_spec.specs.declared.refusal.Refusal.TheVariants.{Misplaced}
use Rattle.rmm_spec.specs.declared.tag.Ripas.{Ripas}
use Rattle.rmm_spec.specs.declared.tag.Ripas.TheVariants.{Empty, Ram}
use Rattle.rmm_spec.specs.Change.{measurement_at}
use Rattle.rmm_spec.specs.Measure.{measurement_words}
use Rattle.rmm_spec.specs.State.{State, Request, Pending, Psci, RipasChange, HostCall}
use Rattle.rmm_spec.specs.Lookup.{realm_at, rec_at, request_of, ripas_number}
use Rattle.rmm_spec.specs.Walk.{walk, half, entry_ripas}
use Rattle.rmm_spec.specs.Rows.{input, decided, done}
use Rattle.rmm_spec.specs.Step.Front.{with_front}

-- a record of the REC, or of its realm, is replaced
abbrev pub rec_change : ℕ → RecUpdate → Change
rec_change rec update = RecordsChanged None (Some (record { rec = rec; update = update }))

abbrev pub realm_change : ℕ → RealmUpdate → Change
realm_change rd update = RecordsChanged (Some (record { rd = rd; update = update })) None

unfoldable pub measurement_read : State → ℕ → ℕ → Result Accepted Refusal
measurement_read s rec index =
    decided (with_front s (call.MeasurementRead index) [])
    (done (measurement_words (measurement_at (realm_at s (rec_at s rec).owner) index)) Unchanged)

unfoldable pub measurement_extend : State → ℕ → ℕ → ℕ → List ℕ → Result Accepted Refusal
measurement_extend s rec index size values =
    decided (with_front s (call.MeasurementExtend index size values) [])
    (done [] (realm_change (rec_at s rec).owner (realm_update.MeasurementExtended index size values)))

unfoldable pub realm_config : State → ℕ → Result Accepted Refusal
realm_config s rec =
    let realm = realm_at s (rec_at s rec).owner in
    decided (with_front s call.RealmConfig []) (done (realm.width ∷ realm.algo ∷ []) Unchanged)

-- the RIPAS that a realm can ask for, by its number
abbrev pub ripas_asked : ℕ → Ripas
ripas_asked number = if number == 0 then Empty else Ram

unfoldable pub ipa_state_set : State → ℕ → ℕ → ℕ → ℕ → Result Accepted Refusal
ipa_state_set s rec base top ripas =
    decided
    (with_front s (call.IpaStateSet base top ripas)
    (input condition.RgnBound (nat_le top (half (realm_at s (rec_at s rec).owner)))
    ∷ []))
    (done [] (rec_change rec (rec_update.RipasRequested base top (ripas_asked ripas))))

unfoldable pub ipa_state_get : State → ℕ → ℕ → Result Accepted Refusal
ipa_state_get s rec ipa =
    let rd = (rec_at s rec).owner in
    decided
    (with_front s (call.IpaStateGet ipa)
    (input condition.IpaBound (nat_lt ipa (half (realm_at s rd)))
    ∷ []))
    (done (ripas_number (entry_ripas (walk s rd ipa 3).entry) ∷ []) Unchanged)

unfoldable pub host_call : State → ℕ → ℕ → Result Accepted Refusal
host_call s rec imm = decided (with_front s (call.HostCall imm) []) (done [] (rec_change rec (rec_update.HostCalled imm)))

unfoldable pub cpu_off : State → ℕ → Result Accepted Refusal
cpu_off s rec = decided (with_front s call.CpuOff []) (done [] (rec_change rec rec_update.TurnedOff))

unfoldable pub system_off : State → ℕ → Result Accepted Refusal
system_off s rec =
    decided (with_front s call.SystemOff [])
    (done [] (RecordsChanged (Some (record { rd = (rec_at s rec).owner; update = realm_update.TurnedOff }))
    (Some (record { rec = rec; update = rec_update.SystemTurnedOff }))))

-- why a REC leaves, as its host is told: 1 interrupt, 3 PSCI call, 4 RIPAS change, 5 host call
abbrev pub exit_words : Request → Option Pending → List ℕ
exit_words request None = 1 ∷ 0 ∷ 0 ∷ 0 ∷ []
exit_words request (Some (Psci function)) = 3 ∷ function ∷ 0 ∷ 0 ∷ []
exit_words request (Some RipasChange) = 4 ∷ request.base ∷ request.top ∷ ripas_number request.ripas ∷ []
exit_words request (Some (HostCall imm)) = 5 ∷ imm ∷ 0 ∷ 0 ∷ []

unfoldable pub rec_exit : State → ℕ → Result Accepted Refusal
rec_exit s rec =
    let old = rec_at s rec in
    decided (with_front s call.Exit []) (done (exit_words (request_of old) old.pending) (rec_change rec rec_update.Exited))

-- what a realm's call leads to: the refusal of the first row that doesn't hold, or what is done
unfoldable pub answer_to_realm : State → ℕ → Call → Result Accepted Refusal
answer_to_realm s rec (call.MeasurementRead index) = measurement_read s rec index
answer_to_realm s rec (call.MeasurementExtend index size values) = measurement_extend s rec index size values
answer_to_realm s rec call.RealmConfig = realm_config s rec
answer_to_realm s rec (call.IpaStateSet base top ripas) = ipa_state_set s rec base top ripas
answer_to_realm s rec (call.IpaStateGet ipa) = ipa_state_get s rec ipa
answer_to_realm s rec (call.HostCall imm) = host_call s rec imm
answer_to_realm s rec call.CpuOff = cpu_off s rec
answer_to_realm s rec call.SystemOff = system_off s rec
answer_to_realm s rec _ = Err (Misplaced condition.OwnOutside)

-- what a proof unfolds to open the rows of each call, and those of the exit
unfoldable pub realm_calls : ⊤
unfolding measurement_read measurement_extend realm_config ipa_state_set ipa_state_get host_call cpu_off system_off rec_exit
realm_calls = tt
