-- What each kind of change requires of the state: what the rows of the commands that make it say, in one place a kind.
use Rattle.std.specs.Prelude.{◌≡◌, ℕ, ◌+◌, ◌-◌, ◌*◌, ◌/◌, ◌<◌, ◌≤◌, false, ◌&&◌, nat_lt, nat_le, ◌==◌, ◌⊎◌, IsTrue, length, Option, Some, None, is_some, is_none}
use Rattle.rmm_spec.specs.declared.change.Change.{Change}
use Rattle.rmm_spec.specs.declared.change.Change.TheVariants.{Unchanged, Retagged, RealmMade, RealmDestroyed, RecMade, RecDestroyed, RecordsChanged, TableMade, TableDestroyed, EntriesChanged}
use Rattle.rmm_spec.specs.declared.change.EntryChange.{EntryChange}
use Rattle.rmm_spec.specs.declared.change.EntryChange.TheVariants.{Replaced, RipasSet}
use Rattle.rmm_spec.specs.declared.change.RealmChange.{RealmChange}
use Rattle.rmm_spec.specs.declared.change.RealmUpdate.{RealmUpdate}
use Rattle.rmm_spec.specs.declared.change.RealmUpdate.TheVariants as realm_update
use Rattle.rmm_spec.specs.declared.change.RecChange.{RecChange}
use Rattle.rmm_spec.specs.declared.change.RecUpdate.{RecUpdate}
use Rattle.rmm_spec.specs.declared.change.RecUpdate.TheVariants as rec_update
use Rattle.rmm_spec.specs.declared.change.TagChange.{TagChange}
use Rattle.rmm_spec.specs.declared.entry.Entry.{Entry}
use Rattle.rmm_spec.specs.declared.entry.Entry.TheVariants.{Unassigned, Assigned, Table, UnassignedNs, AssignedNs}
use Rattle.rmm_spec.specs.declared.tag.Ripas.{Ripas}
use Rattle.rmm_spec.specs.declared.tag.Tag.TheVariants.{Undelegated, Delegated, Rd, Rec, Data}
use Rattle.rmm_spec.specs.State.{State, RecRecord}
use Rattle.rmm_spec.specs.Lookup.{is_hash, has_tag, is_inside, is_vmid_used, has_rec, realm_at, rec_at, request_of}
use Rattle.rmm_spec.specs.Walk.{entry_size, entry_at, half, has_link, is_in_use, is_table, is_assigned}
use Rattle.rmm_spec.specs.Step.Terms.{is_space}
use Rattle.rmm_spec.specs.Sound.{IsRequest, IsTableOf, IsLeafOf}

-- ---- granules, realms and RECs

-- a granule of the host is lent, or one that is lent and not used is taken back
abbrev pub CanRetag : State → TagChange → Type 0
CanRetag s change =
    (IsTrue (has_tag s change.granule Undelegated) × (change.tag ≡ Delegated))
    ⊎ (IsTrue (has_tag s change.granule Delegated) × (change.tag ≡ Undelegated))

pub record CanMakeRealm (s : State) (rd root width level vmid algo : ℕ) : Type 0 where
  pub rd_tag : IsTrue (has_tag s rd Delegated)
  pub root_tag : IsTrue (has_tag s root Delegated)
  pub apart : (rd == root) ≡ false
  pub space : IsTrue (is_space width level)
  pub vmid_fits : IsTrue (nat_le vmid 0xff)
  pub unused : is_vmid_used s vmid ≡ false
  pub hashes : IsTrue (is_hash algo)

pub record CanDestroyRealm (s : State) (rd root : ℕ) : Type 0 where
  pub rd_tag : IsTrue (has_tag s rd Rd)
  pub is_root : root ≡ (realm_at s rd).root
  pub childless : has_rec s rd ≡ false
  pub unlinked : has_link s rd (realm_at s rd).start_level 0 ≡ false

pub record CanMakeRec (s : State) (rd rec mpidr flags aux0 aux1 : ℕ) : Type 0 where
  pub rd_tag : IsTrue (has_tag s rd Rd)
  pub rec_tag : IsTrue (has_tag s rec Delegated)
  pub aux0_tag : IsTrue (has_tag s aux0 Delegated)
  pub aux1_tag : IsTrue (has_tag s aux1 Delegated)
  pub apart0 : (rec == aux0) ≡ false
  pub apart1 : (rec == aux1) ≡ false
  pub apart : (aux0 == aux1) ≡ false
  pub index_fits : IsTrue (mpidr == (realm_at s rd).next_index && nat_lt mpidr 8)
  pub flags_fit : IsTrue (nat_le flags 1)

pub record CanDestroyRec (s : State) (rec aux0 aux1 : ℕ) : Type 0 where
  pub rec_tag : IsTrue (has_tag s rec Rec)
  pub is_aux0 : aux0 ≡ (rec_at s rec).aux0
  pub is_aux1 : aux1 ≡ (rec_at s rec).aux1
  pub ready : IsTrue (is_none (rec_at s rec).cpu)

-- ---- records

-- a realm's measurements are extended within what they have
abbrev pub IsRealmUpdate : RealmUpdate → Type 0
IsRealmUpdate (realm_update.MeasurementExtended index size values) =
    (1 ≤ index) × (index ≤ 4) × (size ≤ 0x40) × (length values ≡ 8)
IsRealmUpdate (realm_update.PageMeasured ipa flags digest) = length digest ≡ 4
IsRealmUpdate (realm_update.RecCounted mpidr flags) = ⊥
IsRealmUpdate _ = Unit {0}

-- a REC runs on one CPU and a CPU runs one REC; what waits to leave runs; requests are of the realm's own pages
abbrev pub CanUpdateRec : State → RecRecord → RecUpdate → Type 0
CanUpdateRec s rec (rec_update.Entered cpu) = IsTrue (is_none rec.cpu) × (is_inside s cpu ≡ false) × IsTrue (is_none rec.pending)
CanUpdateRec s rec rec_update.Exited = IsTrue (is_some rec.cpu)
CanUpdateRec s rec (rec_update.RipasRequested base top ripas) =
    IsTrue (is_some rec.cpu) × IsRequest (realm_at s rec.owner) (record { base = base; top = top; ripas = ripas })
CanUpdateRec s rec (rec_update.HostCalled imm) = IsTrue (is_some rec.cpu)
CanUpdateRec s rec rec_update.TurnedOff = IsTrue (is_some rec.cpu)
CanUpdateRec s rec rec_update.SystemTurnedOff = IsTrue (is_some rec.cpu)
CanUpdateRec s rec (rec_update.RequestMoved base) =
    IsTrue (is_none rec.cpu) × IsTrue (is_some rec.request)
    × IsRequest (realm_at s rec.owner) (record (request_of rec) { base = base })

abbrev pub CanChangeRealm : State → Option RealmChange → Type 0
CanChangeRealm s None = Unit {0}
CanChangeRealm s (Some change) = IsTrue (has_tag s change.rd Rd) × IsRealmUpdate change.update

abbrev pub CanChangeRec : State → Option RecChange → Type 0
CanChangeRec s None = Unit {0}
CanChangeRec s (Some change) = IsTrue (has_tag s change.rec Rec) × CanUpdateRec s (rec_at s change.rec) change.update

-- ---- tables

-- an entry that keeps no table in use: what a new table is filled with, and what is left of one
abbrev pub IsVacant : Entry → Type 0
IsVacant (Unassigned ripas) = Unit {0}
IsVacant UnassignedNs = Unit {0}
IsVacant (Assigned ripas granule) = ⊥
IsVacant (Table granule) = ⊥
IsVacant (AssignedNs page) = ⊥

pub record CanMakeTable (s : State) (rd level number rtt : ℕ) (entry : Entry) : Type 0 where
  pub rd_tag : IsTrue (has_tag s rd Rd)
  pub rtt_tag : IsTrue (has_tag s rtt Delegated)
  pub below_root : (realm_at s rd).start_level < level
  pub place : IsTableOf (realm_at s rd) level number
  pub parent : IsTrue (is_some (s.table rd (level - 1) (number / 512)))
  pub is_entry : entry ≡ entry_at s rd (level - 1) number
  pub leaf : is_table entry ≡ false

pub record CanDestroyTable (s : State) (rd level number rtt : ℕ) (entry : Entry) : Type 0 where
  pub rd_tag : IsTrue (has_tag s rd Rd)
  pub below_root : (realm_at s rd).start_level < level
  pub there : s.table rd level number ≡ Some rtt
  pub unused : is_in_use s rd level number ≡ false
  pub vacant : IsVacant entry
  pub kind : IsLeafOf entry (realm_at s rd) (level - 1) number

-- ---- entries

-- The entry that is replaced is a leaf of a table of the realm, and the new one fits its place.
pub record CanReplace (s : State) (rd level number : ℕ) (entry : Entry) : Type 0 where
  pub table : IsTrue (is_some (s.table rd level (number / 512)))
  pub leaf : is_table (entry_at s rd level number) ≡ false
  pub kind : IsLeafOf entry (realm_at s rd) level number

-- a page is given to the entry, or taken from it, or neither has one
abbrev pub GoesWith : State → ℕ → ℕ → ℕ → Entry → Option TagChange → Type 0
GoesWith s rd level number entry None = (is_assigned entry ≡ false) × (is_assigned (entry_at s rd level number) ≡ false)
GoesWith s rd level number entry (Some page) =
    (IsTrue (has_tag s page.granule Delegated) × (page.tag ≡ Data)
    × (is_assigned (entry_at s rd level number) ≡ false) × ((ripas : Ripas) × (entry ≡ Assigned ripas page.granule)))
    ⊎ ((page.tag ≡ Delegated) × (is_assigned entry ≡ false)
    × ((ripas : Ripas) × (entry_at s rd level number ≡ Assigned ripas page.granule)))

-- Entries of one table of the realm's protected half, none of them a link.
pub record CanSetRipas (s : State) (rd level first last : ℕ) : Type 0 where
  pub some : first < last
  pub table : IsTrue (is_some (s.table rd level (first / 512)))
  pub one_table : last ≤ (first / 512 + 1) * 512
  pub protected : last * entry_size level ≤ half (realm_at s rd)
  pub leaves : (number : ℕ) → first ≤ number → number < last → is_table (entry_at s rd level number) ≡ false

abbrev pub CanChangeEntries : State → ℕ → ℕ → EntryChange → Option TagChange → Type 0
CanChangeEntries s rd level (Replaced number entry) page = CanReplace s rd level number entry × GoesWith s rd level number entry page
CanChangeEntries s rd level (RipasSet first last ripas) page = CanSetRipas s rd level first last × (page ≡ None)

-- ---- changes

abbrev pub CanApply : State → Change → Type 0
CanApply s Unchanged = Unit {0}
CanApply s (Retagged change) = CanRetag s change
CanApply s (RealmMade rd root width level vmid algo) = CanMakeRealm s rd root width level vmid algo
CanApply s (RealmDestroyed rd root) = CanDestroyRealm s rd root
CanApply s (RecMade rd rec mpidr flags aux0 aux1) = CanMakeRec s rd rec mpidr flags aux0 aux1
CanApply s (RecDestroyed rec aux0 aux1) = CanDestroyRec s rec aux0 aux1
CanApply s (RecordsChanged realm rec) = CanChangeRealm s realm × CanChangeRec s rec
CanApply s (TableMade rd level number rtt entry) = CanMakeTable s rd level number rtt entry
CanApply s (TableDestroyed rd level number rtt entry) = CanDestroyTable s rd level number rtt entry
CanApply s (EntriesChanged rd level entries page realm rec) =
    IsTrue (has_tag s rd Rd) × CanChangeEntries s rd level entries page × CanChangeRealm s realm × CanChangeRec s rec
