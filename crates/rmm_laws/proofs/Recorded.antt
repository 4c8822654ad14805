-- What made a realm or a REC that there is, is read from the commits: the latest that names it.
use Rattle.rmm_laws.proofs.Common.{◌==◌, ◌∙◌, ◌≡◌, Bool, Change, IsSound, None, Option, RealmDestroyed, RealmRecord, RecDestroyed, Some, State, TagChange, ap, both_ways, changed, eq-eqb, eqb-true, false, if◌then◌else◌, inl, inr, realm_at, rec_at, refl, sym, true, ℕ}
use Rattle.std.proofs.Common.{unwrap_or}
use Rattle.std.proofs.lemmas.Bool.{ne_eqb}
use Rattle.rmm_spec.specs.declared.change.Change.TheVariants.{Unchanged, Retagged, RealmMade, RecMade, RecordsChanged, TableMade, TableDestroyed, EntriesChanged}
use Rattle.rmm_spec.specs.declared.change.EntryChange.{EntryChange}
use Rattle.rmm_spec.specs.declared.change.EntryChange.TheVariants.{Replaced, RipasSet}
use Rattle.rmm_spec.specs.declared.change.RealmChange.{RealmChange}
use Rattle.rmm_spec.specs.declared.change.RealmUpdate.TheVariants as realm_update
use Rattle.rmm_spec.specs.declared.change.RecChange.{RecChange}
use Rattle.rmm_spec.specs.Applicable.{CanChangeRealm, CanChangeRec, CanApply}
use Rattle.rmm_spec.specs.Change.{new_realm, new_rec, realm_updated, rec_updated, with_tag_change, with_realm_change, with_rec_change, with_entry_change}
use Rattle.rmm_spec.specs.Ownership.{RecParts}
use Rattle.rmm_spec.specs.State.{RecRecord}
use Rattle.rmm_laws.proofs.Records.{updated_like}
use Rattle.rmm_laws.proofs.Searches.{realm_at-is, realm_there, rec_at-is, rec_there}
use Rattle.rmm_laws.proofs.ChangeWords.{root_of, rec_of}
use Rattle.rmm_laws.proofs.Keeps.{with_records, rec_updated-like, tag_change-rest, realm_change-rest, rec_change-rest}
use Rattle.rmm_laws.proofs.Tests.{chosen}

-- each value of the map is recorded: this is read from it
abbrev pub IsRecorded : {V R : Type 0} → (V → R) → (ℕ → R) → (ℕ → Option V) → Type 0
IsRecorded {V} {R} read recorded values = (x : ℕ) (v : V) → values x ≡ Some v → recorded x ≡ read v

abbrev pub root_in : RealmRecord → ℕ
root_in realm = realm.root

abbrev pub parts_in : RecRecord → RecParts
parts_in rec = record { rd = rec.owner; aux0 = rec.aux0; aux1 = rec.aux1 }

-- a test whether two numbers are equal, the other way round
swapped : (a b : ℕ) (test : Bool) → (a == b) ≡ test → (b == a) ≡ test
swapped a b true same = eq-eqb b a (sym (eqb-true a b same))
swapped a b false apart = ne_eqb b a (λ same. both_ways (eq-eqb a b (sym same)) apart)

-- a value is put in, or replaced, and is recorded
put-recorded : {V R : Type 0} (read : V → R) (recorded : ℕ → R) (values : ℕ → Option V) (place : ℕ) (new : V)
    → IsRecorded read recorded values → recorded place ≡ read new
    → IsRecorded read recorded (λ x. if x == place then Some new else values x)
put-recorded read recorded values place new before here x v is = elim (chosen (x == place) (Some new) (values x) (Some v) is) [
  | inl p ↦ (let same : new ≡ v = (let both : Some new ≡ Some v = p.1 in cc) in ap recorded (eqb-true x place p.0) ∙ here ∙ ap read same)
  | inr p ↦ before x v p.1
]

-- a value is put in that a commit makes
made-recorded : {V R : Type 0} (read : V → R) (recorded : ℕ → R) (values : ℕ → Option V) (place : ℕ) (new : V) (made : R)
    → IsRecorded read recorded values → made ≡ read new
    → IsRecorded read (λ x. unwrap_or (if place == x then Some made else None) (recorded x)) (λ x. if x == place then Some new else values x)
made-recorded read recorded values place new made before here x v is = elim (chosen (x == place) (Some new) (values x) (Some v) is) [
  | inl p ↦ (let same : new ≡ v = (let both : Some new ≡ Some v = p.1 in cc) in rw (swapped x place true p.0) (here ∙ ap read same))
  | inr p ↦ rw (swapped x place false p.0) (before x v p.1)
]

-- a value is taken out
gone-recorded : {V R : Type 0} (read : V → R) (recorded : ℕ → R) (values : ℕ → Option V) (place : ℕ) → IsRecorded read recorded values
    → IsRecorded read recorded (λ x. if x == place then None else values x)
gone-recorded read recorded values place before x v is = elim (chosen (x == place) None (values x) (Some v) is) [
  | inl p ↦ absurd (let bad : None ≡ Some v = p.1 in cc)
  | inr p ↦ before x v p.1
]

-- ---- records are replaced

-- an update leaves a REC's parts
rec_updated-parts : (change : RecChange) (r : RecRecord) → parts_in (rec_updated change.update r) ≡ parts_in r
rec_updated-parts change r =
    let like = rec_updated-like change.update r in
    let same : rec_updated change.update r ≡ like.0 = (let both : Some (rec_updated change.update r) ≡ Some like.0 = like.1 in cc) in
    ap parts_in same ∙ (λ i. record { rd = like.2 i; aux0 = like.3 i; aux1 = like.4 i })

realm_change-recorded : (s t : State) (change : Option RealmChange) (roots : ℕ → ℕ) → IsSound s → CanChangeRealm s change → t.realm ≡ s.realm
    → IsRecorded root_in roots s.realm → IsRecorded root_in roots (with_realm_change t change).realm
realm_change-recorded s t None roots sound can same recorded = rw same recorded
realm_change-recorded s t (Some change) roots sound can same recorded =
    let is = realm_there s change.rd sound can.0 in
    let here : t.realm change.rd ≡ Some (realm_at s change.rd) = ap (λ (f : ℕ → Option RealmRecord). f change.rd) same ∙ is in
    put-recorded root_in roots t.realm change.rd (realm_updated change.update (realm_at t change.rd)) (rw same recorded)
    (recorded change.rd (realm_at s change.rd) is
    ∙ sym ((updated_like change.update (realm_at t change.rd)).root ∙ ap root_in (realm_at-is t change.rd (realm_at s change.rd) here)))

rec_change-recorded : (s t : State) (change : Option RecChange) (recs : ℕ → RecParts) → IsSound s → CanChangeRec s change → t.rec ≡ s.rec
    → IsRecorded parts_in recs s.rec → IsRecorded parts_in recs (with_rec_change t change).rec
rec_change-recorded s t None recs sound can same recorded = rw same recorded
rec_change-recorded s t (Some change) recs sound can same recorded =
    let is = rec_there s change.rec sound can.0 in
    let here : t.rec change.rec ≡ Some (rec_at s change.rec) = ap (λ (f : ℕ → Option RecRecord). f change.rec) same ∙ is in
    put-recorded parts_in recs t.rec change.rec (rec_updated change.update (rec_at t change.rec)) (rw same recorded)
    (recorded change.rec (rec_at s change.rec) is
    ∙ sym (rec_updated-parts change (rec_at t change.rec) ∙ ap parts_in (rec_at-is t change.rec (rec_at s change.rec) here)))

-- entries leave realms and RECs as they are
entry_change-rest : (s : State) (rd level : ℕ) (entries : EntryChange)
    → ((with_entry_change s rd level entries).realm ≡ s.realm) × ((with_entry_change s rd level entries).rec ≡ s.rec)
entry_change-rest s rd level (Replaced number entry) = (refl, refl)
entry_change-rest s rd level (RipasSet first last ripas) = (refl, refl)

with_records-roots : (s : State) (page : Option TagChange) (realm : Option RealmChange) (rec : Option RecChange) (roots : ℕ → ℕ)
    → IsSound s → CanChangeRealm s realm
    → IsRecorded root_in roots s.realm → IsRecorded root_in roots (with_records s page realm rec).realm
with_records-roots s page realm rec roots sound can recorded =
    rw ((rec_change-rest (with_realm_change (with_tag_change s page) realm) rec).3)
    (realm_change-recorded s (with_tag_change s page) realm roots sound can (tag_change-rest s page).2 recorded)

with_records-recs : (s : State) (page : Option TagChange) (realm : Option RealmChange)
    (rec : Option RecChange) (recs : ℕ → RecParts) → IsSound s → CanChangeRec s rec
    → IsRecorded parts_in recs s.rec → IsRecorded parts_in recs (with_records s page realm rec).rec
with_records-recs s page realm rec recs sound can recorded =
    rec_change-recorded s (with_realm_change (with_tag_change s page) realm) rec recs sound can
    ((realm_change-rest (with_tag_change s page) realm).3 ∙ (tag_change-rest s page).3) recorded

-- ---- each kind

-- the roots that are recorded, with that of a realm that the change makes
pub roots-after : (s : State) (change : Change) (roots : ℕ → ℕ) → IsSound s → CanApply s change → IsRecorded root_in roots s.realm
    → IsRecorded root_in (λ rd. unwrap_or (root_of rd change) (roots rd)) (changed s change).realm
unfolding changed
roots-after s Unchanged roots sound can recorded = recorded
roots-after s (Retagged change) roots sound can recorded = recorded
roots-after s (RealmMade rd root width level vmid algo) roots sound can recorded =
    made-recorded root_in roots s.realm rd (new_realm root width level vmid algo) root recorded refl
roots-after s (RealmDestroyed rd root) roots sound can recorded = gone-recorded root_in roots s.realm rd recorded
roots-after s (RecMade rd rec mpidr flags aux0 aux1) roots sound can recorded =
    put-recorded root_in roots s.realm rd (realm_updated (realm_update.RecCounted mpidr flags) (realm_at s rd)) recorded
    (recorded rd (realm_at s rd) (realm_there s rd sound can.rd_tag) ∙ sym (updated_like (realm_update.RecCounted mpidr flags) (realm_at s rd)).root)
roots-after s (RecDestroyed rec aux0 aux1) roots sound can recorded = recorded
roots-after s (RecordsChanged realm rec) roots sound can recorded = with_records-roots s None realm rec roots sound can.0 recorded
roots-after s (TableMade rd level number rtt entry) roots sound can recorded = recorded
roots-after s (TableDestroyed rd level number rtt entry) roots sound can recorded = recorded
roots-after s (EntriesChanged rd level entries page realm rec) roots sound can recorded =
    rw ((entry_change-rest (with_records s page realm rec) rd level entries).0) (with_records-roots s page realm rec roots sound can.2 recorded)

-- the parts of RECs that are recorded, with those of a REC that the change makes
pub recs-after : (s : State) (change : Change) (recs : ℕ → RecParts) → IsSound s → CanApply s change → IsRecorded parts_in recs s.rec
    → IsRecorded parts_in (λ rec. unwrap_or (rec_of rec change) (recs rec)) (changed s change).rec
unfolding changed
recs-after s Unchanged recs sound can recorded = recorded
recs-after s (Retagged change) recs sound can recorded = recorded
recs-after s (RealmMade rd root width level vmid algo) recs sound can recorded = recorded
recs-after s (RealmDestroyed rd root) recs sound can recorded = recorded
recs-after s (RecMade rd rec mpidr flags aux0 aux1) recs sound can recorded =
    made-recorded parts_in recs s.rec rec (new_rec rd mpidr flags aux0 aux1) (record { rd = rd; aux0 = aux0; aux1 = aux1 }) recorded refl
recs-after s (RecDestroyed rec aux0 aux1) recs sound can recorded = gone-recorded parts_in recs s.rec rec recorded
recs-after s (RecordsChanged realm rec) recs sound can recorded = with_records-recs s None realm rec recs sound can.1 recorded
recs-after s (TableMade rd level number rtt entry) recs sound can recorded = recorded
recs-after s (TableDestroyed rd level number rtt entry) recs sound can recorded = recorded
recs-after s (EntriesChanged rd level entries page realm rec) recs sound can recorded =
    rw ((entry_change-rest (with_records s page realm rec) rd level entries).1) (with_records-recs s page realm rec recs sound can.3 recorded)
