-- What a source has in a state, as numbers.
use Rattle.std.specs.Prelude.{ℕ, min, Bool, true, if◌then◌else◌, List, [], ◌∷◌, Option, Some, None}
use Rattle.rmm_spec.specs.declared.tag.RealmState.{RealmState}
use Rattle.rmm_spec.specs.declared.tag.RealmState.TheVariants.{New, Active, SystemOff}
use Rattle.rmm_spec.specs.declared.tag.Tag.TheVariants.{Undelegated, Delegated, Rd, Rec, RecAux, Data}
use Rattle.rmm_spec.specs.declared.walked.Walked.{Walked}
use Rattle.rmm_spec.specs.Change.{measurement_at}
use Rattle.rmm_spec.specs.Lookup.{has_tag, is_inside, rec_inside, ripas_number, request_of}
use Rattle.rmm_spec.specs.Measure.{measurement_words}
use Rattle.rmm_spec.specs.State.{State, RealmRecord, RecRecord, Request}
use Rattle.rmm_spec.specs.Step.RealmCall.{exit_words}
use Rattle.rmm_spec.specs.Walk.{walk, entry_address, entry_ripas, entry_state}
use Rattle.reasons.specs.declared.test.RealmTest.{RealmTest}
use Rattle.reasons.specs.declared.test.RealmTest.TheVariants as realm_test
use Rattle.reasons.specs.declared.test.RecTest.{RecTest}
use Rattle.reasons.specs.declared.test.RecTest.TheVariants as rec_test
use Rattle.reasons.specs.declared.test.Test.{Test}
use Rattle.reasons.specs.declared.test.Test.TheVariants as test
use Rattle.reasons.specs.declared.source.Source.{Source}
use Rattle.reasons.specs.declared.source.Source.TheVariants as source

-- a granule's tag as a number, and another one where there is no granule
abbrev pub tag_read : State → ℕ → ℕ
tag_read s granule =
    if has_tag s granule Undelegated then 0
    else if has_tag s granule Delegated then 1
    else if has_tag s granule Rd then 2
    else if has_tag s granule Rec then 3
    else if has_tag s granule RecAux then 4
    else if has_tag s granule Data then 5
    else 6

abbrev pub state_number : RealmState → ℕ
state_number New = 0
state_number Active = 1
state_number SystemOff = 2

-- nothing is read where no realm is
abbrev pub of_realm : (RealmRecord → List ℕ) → Option RealmRecord → List ℕ
of_realm reads None = []
of_realm reads (Some realm) = reads realm

abbrev pub state_read : RealmRecord → List ℕ
state_read realm = state_number realm.state ∷ []

abbrev pub space_read : RealmRecord → List ℕ
space_read realm = realm.width ∷ realm.start_level ∷ realm.algo ∷ []

-- the realm of a REC
abbrev pub owner_realm : State → Option RecRecord → Option RealmRecord
owner_realm s None = None
owner_realm s (Some rec) = s.realm rec.owner

-- nor where no REC is
abbrev pub of_rec : (RecRecord → List ℕ) → Option RecRecord → List ℕ
of_rec reads None = []
of_rec reads (Some rec) = reads rec

abbrev pub cpu_read : Option ℕ → List ℕ
cpu_read None = []
cpu_read (Some cpu) = cpu ∷ []

abbrev pub request_read : Option Request → List ℕ
request_read None = []
request_read (Some request) = request.base ∷ request.top ∷ ripas_number request.ripas ∷ []

abbrev pub walk_read : Walked → List ℕ
walk_read end = end.level ∷ entry_state end.entry ∷ entry_address end.entry ∷ ripas_number (entry_ripas end.entry) ∷ []

-- of a realm that is there
abbrev pub walk_in : State → ℕ → ℕ → ℕ → List ℕ
walk_in s rd ipa level = if has_tag s rd Rd then walk_read (walk s rd ipa (min level 3)) else []

abbrev pub index_read : RealmRecord → List ℕ
index_read realm = realm.next_index ∷ []

abbrev pub measured_read : ℕ → RealmRecord → List ℕ
measured_read index realm = measurement_words (measurement_at realm (min index 4))

abbrev pub running_read : RecRecord → List ℕ
running_read rec = cpu_read rec.cpu

abbrev pub runnable_read : RecRecord → List ℕ
runnable_read rec = (if rec.runnable then 1 else 0) ∷ []

abbrev pub owner_read : RecRecord → List ℕ
owner_read rec = rec.owner ∷ []

abbrev pub asked_read : RecRecord → List ℕ
asked_read rec = request_read rec.request

abbrev pub leaving_read : RecRecord → List ℕ
leaving_read rec = exit_words (request_of rec) rec.pending

unfoldable pub read : State → Source → List ℕ
read s source.Nothing = []
read s (source.Place cpu) = if is_inside s cpu then rec_inside s cpu ∷ [] else []
read s (source.Tag granule) = tag_read s granule ∷ []
read s (source.State rd) = of_realm state_read (s.realm rd)
read s (source.OwnerState rec) = of_realm state_read (owner_realm s (s.rec rec))
read s (source.NextIndex rd) = of_realm index_read (s.realm rd)
read s (source.Space rd) = of_realm space_read (s.realm rd)
read s (source.OwnerSpace rec) = of_realm space_read (owner_realm s (s.rec rec))
read s (source.Running rec) = of_rec running_read (s.rec rec)
read s (source.Runnable rec) = of_rec runnable_read (s.rec rec)
read s (source.Owner rec) = of_rec owner_read (s.rec rec)
read s (source.Request rec) = of_rec asked_read (s.rec rec)
read s (source.Leaving rec) = of_rec leaving_read (s.rec rec)
read s (source.Walk rd ipa level) = walk_in s rd ipa level
read s (source.Measured rd index) = of_realm (measured_read index) (s.realm rd)

-- ---- what a test is read from

abbrev pub source_of_realm : ℕ → RealmTest → Source
source_of_realm rd realm_test.New = source.State rd
source_of_realm rd realm_test.Begun = source.State rd
source_of_realm rd realm_test.On = source.State rd
source_of_realm rd (realm_test.NextIndex index) = source.NextIndex rd
source_of_realm rd _ = source.Space rd

abbrev pub source_of_owner : ℕ → RealmTest → Source
source_of_owner rec realm_test.New = source.OwnerState rec
source_of_owner rec realm_test.Begun = source.OwnerState rec
source_of_owner rec realm_test.On = source.OwnerState rec
source_of_owner rec _ = source.OwnerSpace rec

abbrev pub source_of_rec : ℕ → RecTest → Source
source_of_rec rec rec_test.Ready = source.Running rec
source_of_rec rec rec_test.Runnable = source.Runnable rec
source_of_rec rec (rec_test.OwnedBy rd) = source.Owner rec
source_of_rec rec _ = source.Request rec

unfoldable pub source_of : Test → Source
source_of (test.Outside cpu) = source.Place cpu
source_of (test.Inside cpu) = source.Place cpu
source_of (test.Idle rec) = source.Leaving rec
source_of (test.Tagged granule tag) = source.Tag granule
source_of (test.OfRealm rd asked) = source_of_realm rd asked
source_of (test.OfRec rec asked) = source_of_rec rec asked
source_of (test.OfOwner rec asked) = source_of_owner rec asked
source_of (test.OfWalk rd ipa level asked) = source.Walk rd ipa level
source_of _ = source.Nothing

-- ---- whether the realm or the REC that it is of is there

unfoldable pub stands_for : State → Source → Bool
stands_for s source.Nothing = true
stands_for s (source.Place cpu) = true
stands_for s (source.Tag granule) = true
stands_for s (source.State rd) = has_tag s rd Rd
stands_for s (source.OwnerState rec) = has_tag s rec Rec
stands_for s (source.NextIndex rd) = has_tag s rd Rd
stands_for s (source.Space rd) = has_tag s rd Rd
stands_for s (source.OwnerSpace rec) = has_tag s rec Rec
stands_for s (source.Running rec) = has_tag s rec Rec
stands_for s (source.Runnable rec) = has_tag s rec Rec
stands_for s (source.Owner rec) = has_tag s rec Rec
stands_for s (source.Request rec) = has_tag s rec Rec
stands_for s (source.Leaving rec) = has_tag s rec Rec
stands_for s (source.Walk rd ipa level) = has_tag s rd Rd
stands_for s (source.Measured rd index) = has_tag s rd Rd
