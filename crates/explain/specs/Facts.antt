-- What a test that fails reads of a state: the one fact that a report has for it.
use Rattle.std.specs.Prelude.{◌≡◌, ◌≢◌, ℕ, ◌+◌, ◌*◌, ◌%◌, ◌^◌, ◌<◌, min, false, IsTrue, is_some, Option, Some, None, IfSome}
use Rattle.rmm_spec.specs.declared.call.Removal.{Removal}
use Rattle.rmm_spec.specs.declared.call.Removal.TheVariants.{Destroy, Fold}
use Rattle.rmm_spec.specs.declared.entry.Entry.{Entry}
use Rattle.rmm_spec.specs.declared.entry.EntryTest.{EntryTest}
use Rattle.rmm_spec.specs.declared.entry.EntryTest.TheVariants.{Live, Link, Unlike}
use Rattle.rmm_spec.specs.declared.tag.Tag.{Tag}
use Rattle.rmm_spec.specs.declared.version.Version.{Version}
use Rattle.rmm_spec.specs.declared.version.Version.TheVariants.{One, Two, Large}
use Rattle.rmm_spec.specs.declared.walked.Walked.{Walked}
use Rattle.rmm_spec.specs.Lookup.{has_vmid, is_granule, is_inside, is_owned_by, realm_at, rec_at, rec_inside, ripas_number}
use Rattle.rmm_spec.specs.State.{State}
use Rattle.rmm_spec.specs.Walk as tables
use Rattle.rmm_spec.specs.Walk.{entry_address, entry_at, entry_ripas, entry_size, entry_state, table_number, walk}
use Rattle.realm_desc.specs.View.{pending_of}
use Rattle.reasons.specs.declared.test.RealmTest.{RealmTest}
use Rattle.reasons.specs.declared.test.RealmTest.TheVariants as of_realm
use Rattle.reasons.specs.declared.test.RecTest.{RecTest}
use Rattle.reasons.specs.declared.test.RecTest.TheVariants as of_rec
use Rattle.reasons.specs.declared.test.Test.{Test}
use Rattle.reasons.specs.declared.test.Test.TheVariants as test
use Rattle.reasons.specs.declared.test.WordTest.TheVariants as of_words
use Rattle.reasons.specs.Tests.{word_passes}
use Rattle.reasons.specs.declared.facts.EntryRead.{EntryRead}
use Rattle.reasons.specs.declared.facts.Fact.{Fact}
use Rattle.reasons.specs.declared.facts.Fact.TheVariants as fact

-- the tag of the granule at the address, or nothing where there is none
abbrev pub IsFound : State → ℕ → Option Tag → Type 0
IsFound s granule None = is_granule s.config.granules granule ≡ false
IsFound s granule (Some tag) = IsTrue (is_granule s.config.granules granule) × (s.tag granule ≡ tag)

-- the REC inside which the CPU is, or nothing where it is outside
abbrev pub IsPlace : State → ℕ → Option ℕ → Type 0
IsPlace s cpu rec = (is_some rec ≡ is_inside s cpu) × IfSome rec (λ r. r ≡ rec_inside s cpu)

-- what is read of an entry of the level
abbrev pub entry_seen : ℕ → Entry → EntryRead
entry_seen level entry =
    record { level = level; state = entry_state entry; address = entry_address entry; ripas = ripas_number (entry_ripas entry) }

-- what is read of the entry at which a walk ends
abbrev pub end_seen : Walked → EntryRead
end_seen end = entry_seen end.level end.entry

-- what is asked of an entry that keeps a table where it is
abbrev pub in_the_way : Removal → Entry → EntryTest
in_the_way Destroy first = Live
in_the_way Fold first = Unlike first

-- an entry of the table of that number, of which this is met, with the first address that it covers
abbrev pub IsEntryIn : State → ℕ → ℕ → ℕ → EntryTest → ℕ → EntryRead → Type 0
IsEntryIn s rd level number wanted ipa read =
    (k : ℕ) × (k < 512) × IsTrue (tables.passes wanted (entry_at s rd level (512 * number + k)))
    × (ipa ≡ (512 * number + k) * entry_size level % 2 ^ 64) × (read ≡ entry_seen level (entry_at s rd level (512 * number + k)))

-- Of the realm at the address, or nothing where none is there.
abbrev pub IsRealmFact : State → ℕ → RealmTest → Fact → Type 0
IsRealmFact s rd asked fact.Nothing = s.realm rd ≡ None
IsRealmFact s rd of_realm.New (fact.State at state) = (at ≡ rd) × ((realm_at s rd).state ≡ state)
IsRealmFact s rd of_realm.Begun (fact.State at state) = (at ≡ rd) × ((realm_at s rd).state ≡ state)
IsRealmFact s rd of_realm.On (fact.State at state) = (at ≡ rd) × ((realm_at s rd).state ≡ state)
IsRealmFact s rd (of_realm.NextIndex index) (fact.NextIndex at next_index) = (at ≡ rd) × ((realm_at s rd).next_index ≡ next_index)
IsRealmFact s rd of_realm.New _ = ⊥
IsRealmFact s rd of_realm.Begun _ = ⊥
IsRealmFact s rd of_realm.On _ = ⊥
IsRealmFact s rd (of_realm.NextIndex index) _ = ⊥
IsRealmFact s rd _ (fact.Space at width start_level) =
    (at ≡ rd) × ((realm_at s rd).width ≡ width) × ((realm_at s rd).start_level ≡ start_level)
IsRealmFact s rd _ _ = ⊥

-- Of the REC at the address, or nothing where none is there.
abbrev pub IsRecFact : State → ℕ → RecTest → Fact → Type 0
IsRecFact s rec asked fact.Nothing = s.rec rec ≡ None
IsRecFact s rec of_rec.Ready (fact.Runs at cpu) = (at ≡ rec) × ((rec_at s rec).cpu ≡ Some cpu)
IsRecFact s rec of_rec.Runnable (fact.Stopped at) = (at ≡ rec) × ((rec_at s rec).runnable ≡ false)
IsRecFact s rec (of_rec.OwnedBy rd) (fact.Owner at owner) = (at ≡ rec) × ((rec_at s rec).owner ≡ owner)
IsRecFact s rec of_rec.Requesting (fact.Request at request) = (at ≡ rec) × ((rec_at s rec).request ≡ request)
IsRecFact s rec (of_rec.From base) (fact.Request at request) = (at ≡ rec) × ((rec_at s rec).request ≡ request)
IsRecFact s rec (of_rec.By top) (fact.Request at request) = (at ≡ rec) × ((rec_at s rec).request ≡ request)
IsRecFact s rec _ _ = ⊥

-- the number of a version's last hash
abbrev pub last_hash : Version → ℕ
last_hash One = 0
last_hash Two = 1
last_hash Large = 1

-- A test has one kind of fact, which is of what the test is about: of the command's word, or of the state. Of a word it is told that it
-- isn't as it has to be.
abbrev pub IsFact : State → Test → Fact → Type 0
IsFact s (test.OfWord index word asked) (fact.Word at value wanted) =
    (at ≡ index) × (value ≡ word) × (wanted ≡ asked) × (word_passes wanted value ≡ false)
IsFact s (test.Hash algo) (fact.Word at value wanted) =
    (at ≡ 5) × (value ≡ algo) × (wanted ≡ of_words.AtMost (last_hash s.config.version)) × (word_passes wanted value ≡ false)
IsFact s (test.Outside cpu) (fact.Place at rec) = (at ≡ cpu) × IsPlace s cpu rec
IsFact s (test.Inside cpu) (fact.Place at rec) = (at ≡ cpu) × IsPlace s cpu rec
IsFact s (test.Idle rec) (fact.Pending at pending) = (at ≡ rec) × ((rec_at s rec).pending ≡ Some (pending_of pending))
IsFact s (test.Tagged granule needed) (fact.Tag at wanted found) =
    (at ≡ granule) × (wanted ≡ needed) × IsFound s granule found × (found ≢ Some needed)
IsFact s (test.VmidFree vmid) (fact.Vmid number rd) = (number ≡ vmid) × IsTrue (has_vmid vmid (s.realm rd))
IsFact s (test.OfRealm rd asked) read = IsRealmFact s rd asked read
IsFact s (test.OfOwner rec asked) read = IsRealmFact s (rec_at s rec).owner asked read
IsFact s (test.OfRec rec asked) read = IsRecFact s rec asked read
IsFact s (test.NoRec rd) (fact.RecLeft at rec) = (at ≡ rd) × IsTrue (is_owned_by rd (s.rec rec))
IsFact s (test.NoLink rd) (fact.InUse at ipa read) = (at ≡ rd) × IsEntryIn s rd (realm_at s rd).start_level 0 Link ipa read
IsFact s (test.OfWalk rd ipa level asked) (fact.Entry at address read) =
    (at ≡ rd) × (address ≡ ipa) × (read ≡ end_seen (walk s rd ipa (min level 3)))
IsFact s (test.Removable removal rd ipa level) fact.Nothing = 3 < level
IsFact s (test.Removable removal rd ipa level) (fact.InUse at first read) =
    (at ≡ rd)
    × IsEntryIn s rd level (table_number level ipa) (in_the_way removal (entry_at s rd level (512 * table_number level ipa))) first read
IsFact s _ _ = ⊥
