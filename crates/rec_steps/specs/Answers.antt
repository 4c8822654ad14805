-- What is answered from the records of a REC and of its realm alone, and what they become.
use Rattle.std.specs.Prelude.{◌≡◌, ℕ, Bool, true, false, not, ◌&&◌, List, [], ◌∷◌, Result, Ok, Err, Option, Some, None, IfSome, is_none}
use Rattle.rmm_spec.specs.declared.accepted.Accepted.{Accepted}
use Rattle.rmm_spec.specs.declared.accepted.Accepted.TheVariants.{Done}
use Rattle.rmm_spec.specs.declared.call.Call.{Call}
use Rattle.rmm_spec.specs.declared.call.Call.TheVariants.{IpaStateGet}
use Rattle.rmm_spec.specs.declared.change.Change.{Change}
use Rattle.rmm_spec.specs.declared.change.Change.TheVariants.{Unchanged, RecordsChanged}
use Rattle.rmm_spec.specs.declared.change.RealmUpdate.{RealmUpdate}
use Rattle.rmm_spec.specs.declared.change.RealmUpdate.TheVariants.{MeasurementExtended}
use Rattle.rmm_spec.specs.declared.change.RecUpdate.{RecUpdate}
use Rattle.rmm_spec.specs.declared.change.RecUpdate.TheVariants.{Entered}
use Rattle.rmm_spec.specs.declared.condition.Condition.TheVariants as condition
use Rattle.rmm_spec.specs.declared.refusal.Refusal.{Refusal}
use Rattle.rmm_spec.specs.declared.refusal.Refusal.TheVariants as of
use Rattle.rmm_spec.specs.declared.reply.Reply.{Reply}
use Rattle.rmm_spec.specs.declared.reply.Reply.TheVariants as reply
use Rattle.rmm_spec.specs.declared.tag.Ripas.{Ripas}
use Rattle.rmm_spec.specs.Applicable.{IsRealmUpdate}
use Rattle.rmm_spec.specs.Change.{realm_updated, rec_updated}
use Rattle.rmm_spec.specs.Lookup.{request_of, is_new, is_system_off}
use Rattle.rmm_spec.specs.Rows.{row, decided, done, realm_row, rec_row}
use Rattle.rmm_spec.specs.State.{State, RealmRecord, RecRecord}
use Rattle.rmm_spec.specs.Step.RealmCall.{rec_change, realm_change}
use Rattle.rmm_spec.specs.Walk.{walk, entry_ripas, is_protected}
use Rattle.realm_desc.specs.Updates.{IsRecUpdate}
use Rattle.rec_steps.specs.declared.measurement.Extension.{Extension}
use Rattle.rec_steps.specs.declared.step.RecStep.{RecStep}

-- ---- answers

-- the change of a realm's record and of a REC's, at their addresses
abbrev pub change_at : ℕ → ℕ → Option RealmUpdate → Option RecUpdate → Change
change_at rd rec None None = Unchanged
change_at rd rec None (Some update) = RecordsChanged None (Some (record { rec = rec; update = update }))
change_at rd rec (Some update) None = RecordsChanged (Some (record { rd = rd; update = update })) None
change_at rd rec (Some update) (Some rec_update) =
    RecordsChanged (Some (record { rd = rd; update = update })) (Some (record { rec = rec; update = rec_update }))

-- a step of a realm and a REC at their addresses, as the definitions accept it
abbrev pub accepted_at : ℕ → ℕ → RecStep → Accepted
accepted_at rd rec step = Done step.words (change_at rd rec step.realm step.rec)

-- what is answered to the REC and its realm at their addresses
abbrev pub answer_at : ℕ → ℕ → Result RecStep Refusal → Result Accepted Refusal
answer_at rd rec (Ok step) = Ok (accepted_at rd rec step)
answer_at rd rec (Err refusal) = Err refusal

-- what is answered to a realm that extends a measurement by these values
abbrev pub extension_at : ℕ → List ℕ → Result Extension Refusal → Result Accepted Refusal
extension_at rd values (Ok extension) = Ok (done [] (realm_change rd (MeasurementExtended extension.index extension.size values)))
extension_at rd values (Err refusal) = Err refusal

-- the rows of an Enter over the two records
abbrev pub enter_rows : RealmRecord → RecRecord → ℕ → ℕ → Result Accepted Refusal
enter_rows realm rec cpu address =
    decided
    (realm_row condition.RealmNew (not (is_new realm))
    ∷ row (of.Realm condition.SystemOff 1) (not (is_system_off realm))
    ∷ rec_row condition.RecState (is_none rec.cpu)
    ∷ rec_row condition.RecRunnable rec.runnable
    ∷ [])
    (done ((request_of rec).base ∷ []) (rec_change address (Entered cpu)))

abbrev pub is_refusal : Reply → Bool
is_refusal (reply.Ok words) = false
is_refusal (reply.Err status index) = true
is_refusal reply.Misplaced = true

-- ---- what is read

-- whether the call reads an entry: an IPA_STATE_GET with good words
abbrev pub is_read : RealmRecord → Call → Bool
is_read realm (IpaStateGet ipa) = is_protected realm ipa
is_read realm _ = false

-- whether the command of a CPU inside the REC reads one, with no exit pending
abbrev pub is_walk : RealmRecord → RecRecord → Call → Bool
is_walk realm rec (IpaStateGet ipa) = is_none rec.pending && is_protected realm ipa
is_walk realm rec _ = false

-- the RIPAS is that of the entry which the command reads
abbrev pub IsRipasRead : State → ℕ → Call → Ripas → Type 0
IsRipasRead s rd (IpaStateGet ipa) ripas = entry_ripas (walk s rd ipa 3).entry ≡ ripas
IsRipasRead s rd _ ripas = Unit {0}

-- ---- what is changed

abbrev pub realm_after : Option RealmUpdate → RealmRecord → RealmRecord
realm_after None realm = realm
realm_after (Some update) realm = realm_updated update realm

abbrev pub rec_after : Option RecUpdate → RecRecord → RecRecord
rec_after None rec = rec
rec_after (Some update) rec = rec_updated update rec

-- a realm and any REC of it can take the step
pub record IsStep (step : RecStep) : Type 0 where
  pub of_realm : IfSome step.realm IsRealmUpdate
  pub of_rec : (rec : RecRecord) → IfSome step.rec (IsRecUpdate rec)
