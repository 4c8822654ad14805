-- Every change that a state can take keeps it sound: by kind of change.
use Rattle.rmm_laws.proofs.SoundCommon.{IsSound, State}
use Rattle.rmm_spec.specs.declared.change.Change.{Change}
use Rattle.rmm_spec.specs.declared.change.Change.TheVariants.{Unchanged, Retagged, RealmMade, RealmDestroyed, RecMade, RecDestroyed, RecordsChanged, TableMade, TableDestroyed, EntriesChanged}
use Rattle.rmm_spec.specs.Change.{changed}
use Rattle.rmm_spec.specs.Applicable.{CanApply}
use Rattle.rmm_laws.proofs.ChangesMade.{retag_sound, make_realm_sound, destroy_realm_sound, make_rec_sound, destroy_rec_sound}
use Rattle.rmm_laws.proofs.EntriesChanged.{make_table_sound, destroy_table_sound, entries_and_records_sound}
use Rattle.rmm_laws.proofs.Records.{records_sound}

-- every kind of change keeps states sound
pub changed_sound : (s : State) (change : Change) → IsSound s → CanApply s change → IsSound (changed s change)
unfolding changed
changed_sound s Unchanged sound can = sound
changed_sound s (Retagged change) sound can = retag_sound s change sound can
changed_sound s (RealmMade rd root width level vmid algo) sound can = make_realm_sound s rd root width level vmid algo sound can
changed_sound s (RealmDestroyed rd root) sound can = destroy_realm_sound s rd root sound can
changed_sound s (RecMade rd rec mpidr flags aux0 aux1) sound can = make_rec_sound s rd rec mpidr flags aux0 aux1 sound can
changed_sound s (RecDestroyed rec aux0 aux1) sound can = destroy_rec_sound s rec aux0 aux1 sound can
changed_sound s (RecordsChanged realm rec) sound can = records_sound s realm rec sound can.0 can.1
changed_sound s (TableMade rd level number rtt entry) sound can = make_table_sound s rd level number rtt entry sound can
changed_sound s (TableDestroyed rd level number rtt entry) sound can = destroy_table_sound s rd level number rtt entry sound can
changed_sound s (EntriesChanged rd level entries page realm rec) sound can =
    entries_and_records_sound s rd level entries page realm rec sound can.1 can.2 can.3
