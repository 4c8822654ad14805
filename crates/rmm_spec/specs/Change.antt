-- What an accepted command changes: ten kinds of change, each said once, by the updates of a state.
-- What is kept of realms, RECs and tables is after DEN0137 (RMI commands' success conditions); the kinds are this project's own.
use Rattle.std.specs.Prelude.{ℕ, ◌+◌, ◌-◌, false, ◌==◌, if◌then◌else◌, List, [], ◌∷◌, take, replicate, Option, Some, None, slice_index_or, slice_set}
use Rattle.rmm_spec.specs.declared.change.Change.{Change}
use Rattle.rmm_spec.specs.declared.change.Change.TheVariants.{Unchanged, Retagged, RealmMade, RealmDestroyed, RecMade, RecDestroyed, RecordsChanged, TableMade, TableDestroyed, EntriesChanged}
use Rattle.rmm_spec.specs.declared.change.EntryChange.{EntryChange}
use Rattle.rmm_spec.specs.declared.change.EntryChange.TheVariants.{Replaced, RipasSet}
use Rattle.rmm_spec.specs.declared.change.RealmChange.{RealmChange}
use Rattle.rmm_spec.specs.declared.change.RealmUpdate.{RealmUpdate}
use Rattle.rmm_spec.specs.declared.change.RealmUpdate.TheVariants as realm_update
use Rattle.rmm_spec.specs.declared.change.RecChange.{RecChange}
use Rattle.rmm_spec.specs.declared.change.RecUpdate.{RecUpdate}
use Rattle.rmm_spec.specs.declared.change.RecUpdate.TheVariants as rec_update
use Rattle.rmm_spec.specs.declared.change.TagChange.{TagChange}
use Rattle.rmm_spec.specs.declared.function_id.FunctionId.TheVariants as function
use Rattle.rmm_spec.specs.declared.measurement.Measurement.{Measurement}
use Rattle.rmm_spec.specs.declared.measurement.Measurement.TheVariants.{Sha256}
use Rattle.rmm_spec.specs.declared.tag.RealmState.TheVariants as realm_state
use Rattle.rmm_spec.specs.declared.tag.Tag.TheVariants.{Delegated, Rd, Rec, RecAux, Rtt}
use Rattle.rmm_spec.specs.Function.{number_of}
use Rattle.rmm_spec.specs.Measure.{words_bytes, rim_begin, rim_extended, rem_start, rem_extended}
use Rattle.rmm_spec.specs.State.{State, RealmRecord, RecRecord, Pending, Psci, RipasChange, HostCall}
use Rattle.rmm_spec.specs.Update.{with_tag, with_realm, without_realm, with_root, with_rec, without_rec, with_table, without_table, with_leaf, with_ripas}
use Rattle.rmm_spec.specs.Lookup.{realm_at, rec_at, request_of}

-- ---- records

-- a realm that was just made (DEN0137, RMI_REALM_CREATE)
abbrev pub new_realm : ℕ → ℕ → ℕ → ℕ → ℕ → RealmRecord
new_realm root width level vmid algo = record {
  state = realm_state.New;
  width = width;
  start_level = level;
  vmid = vmid;
  algo = algo;
  root = root;
  next_index = 0;
  rim = rim_begin width level algo;
  rems = replicate 4 (rem_start algo);
}

-- a REC that was just made: it runs on no CPU and asks for nothing (DEN0137, RMI_REC_CREATE)
abbrev pub new_rec : ℕ → ℕ → ℕ → ℕ → ℕ → RecRecord
new_rec rd index flags aux0 aux1 = record {
  owner = rd;
  index = index;
  aux0 = aux0;
  aux1 = aux1;
  runnable = flags == 1;
  cpu = None;
  request = None;
  pending = None;
}

-- the RIM, or one of the four REMs, which count from 1
abbrev pub measurement_at : RealmRecord → ℕ → Measurement
measurement_at realm index = if index == 0 then realm.rim else slice_index_or realm.rems (index - 1) (Sha256 [])

-- the realm with its RIM extended by the words of a command
abbrev pub with_measured : RealmRecord → List ℕ → RealmRecord
with_measured realm words = record realm { rim = rim_extended realm.rim words }

-- what becomes of a realm's record
unfoldable pub realm_updated : RealmUpdate → RealmRecord → RealmRecord
realm_updated realm_update.Activated realm = record realm { state = realm_state.Active }
realm_updated realm_update.TurnedOff realm = record realm { state = realm_state.SystemOff }
realm_updated (realm_update.RecCounted mpidr flags) realm = record realm {
  next_index = realm.next_index + 1;
  rim = rim_extended realm.rim (number_of function.RecCreate ∷ mpidr ∷ flags ∷ []);
}
realm_updated (realm_update.PageMeasured ipa flags digest) realm =
    with_measured realm (number_of function.DataCreate ∷ ipa ∷ flags ∷ (if flags == 1 then digest else replicate 4 0))
realm_updated (realm_update.StretchMeasured base top) realm = with_measured realm (number_of function.RttInitRipas ∷ base ∷ top ∷ [])
realm_updated (realm_update.MeasurementExtended index size values) realm =
    record realm { rems = slice_set realm.rems (index - 1) (rem_extended (measurement_at realm index) (take size (words_bytes values))) }

-- the REC waits to leave
abbrev pub with_pending : RecRecord → Pending → RecRecord
with_pending rec pending = record rec { pending = Some pending }

-- what becomes of a REC's record
unfoldable pub rec_updated : RecUpdate → RecRecord → RecRecord
rec_updated (rec_update.Entered cpu) rec = record rec { cpu = Some cpu; request = None }
rec_updated rec_update.Exited rec = record rec { cpu = None; pending = None }
rec_updated (rec_update.RipasRequested base top ripas) rec =
    with_pending (record rec { request = Some (record { base = base; top = top; ripas = ripas }) }) RipasChange
rec_updated (rec_update.HostCalled imm) rec = with_pending rec (HostCall imm)
rec_updated rec_update.TurnedOff rec = with_pending (record rec { runnable = false }) (Psci (number_of function.CpuOff))
rec_updated rec_update.SystemTurnedOff rec = with_pending rec (Psci (number_of function.SystemOff))
rec_updated (rec_update.RequestMoved base) rec = record rec { request = Some (record (request_of rec) { base = base }) }

-- ---- parts of a state

abbrev pub with_realm_change : State → Option RealmChange → State
with_realm_change s None = s
with_realm_change s (Some change) = with_realm s change.rd (realm_updated change.update (realm_at s change.rd))

abbrev pub with_rec_change : State → Option RecChange → State
with_rec_change s None = s
with_rec_change s (Some change) = with_rec s change.rec (rec_updated change.update (rec_at s change.rec))

abbrev pub with_tag_change : State → Option TagChange → State
with_tag_change s None = s
with_tag_change s (Some change) = with_tag s change.granule change.tag

abbrev pub with_entry_change : State → ℕ → ℕ → EntryChange → State
with_entry_change s rd level (Replaced number entry) = with_leaf s rd level number entry
with_entry_change s rd level (RipasSet first last ripas) = with_ripas s rd level first last ripas

-- ---- changes

unfoldable pub changed : State → Change → State
changed s Unchanged = s
changed s (Retagged change) = with_tag s change.granule change.tag
changed s (RealmMade rd root width level vmid algo) =
    with_root (with_realm (with_tag (with_tag s rd Rd) root Rtt) rd (new_realm root width level vmid algo)) rd level root
changed s (RealmDestroyed rd root) = without_realm (with_tag (with_tag s rd Delegated) root Delegated) rd
changed s (RecMade rd rec mpidr flags aux0 aux1) =
    with_rec (with_realm (with_tag (with_tag (with_tag s rec Rec) aux0 RecAux) aux1 RecAux)
    rd (realm_updated (realm_update.RecCounted mpidr flags) (realm_at s rd))) rec (new_rec rd mpidr flags aux0 aux1)
changed s (RecDestroyed rec aux0 aux1) =
    without_rec (with_tag (with_tag (with_tag s rec Delegated) aux0 Delegated) aux1 Delegated) rec
changed s (RecordsChanged realm rec) = with_rec_change (with_realm_change s realm) rec
changed s (TableMade rd level number rtt entry) = with_table (with_tag s rtt Rtt) rd level number rtt entry
changed s (TableDestroyed rd level number rtt entry) = without_table (with_tag s rtt Delegated) rd level number entry
changed s (EntriesChanged rd level entries page realm rec) =
    with_entry_change (with_rec_change (with_realm_change (with_tag_change s page) realm) rec) rd level entries
