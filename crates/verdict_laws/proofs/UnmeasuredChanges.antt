-- States that differ in measurements alone are changed alike.
use Rattle.verdict_laws.proofs.Common.{◌≡◌, ℕ, ◌==◌, Bool, true, false, if◌then◌else◌, Option, Some, None, refl, sym, ◌∙◌, ap, Change, Unchanged, Retagged, RealmMade, RealmDestroyed, RecMade, RecDestroyed, RecordsChanged, TableMade, TableDestroyed, EntriesChanged, Replaced, RipasSet, RealmChange, RecChange, TagChange, Delegated, Rd, Rec, RecAux, Rtt, State, RealmRecord, changed, new_rec, realm_updated, with_tag_change, with_realm_change, with_rec_change, realm_at, rec_at}
use Rattle.std.specs.Prelude.{option_map}
use Rattle.rmm_spec.specs.declared.change.EntryChange.{EntryChange}
use Rattle.rmm_spec.specs.declared.change.RealmUpdate.{RealmUpdate}
use Rattle.rmm_spec.specs.declared.change.RealmUpdate.TheVariants as realm_update
use Rattle.rmm_spec.specs.Update.{with_tag, with_realm, without_realm, with_root, with_rec, without_rec, with_table, without_table}
use Rattle.rmm_spec.specs.Change.{new_realm, with_entry_change}
use Rattle.verdict_laws.specs.Unread.{unmeasured, unmeasured_realm}
use Rattle.verdict_laws.proofs.UnmeasuredAnswers.{Alike, realm_at-unmeasured}

-- nothing is measured of what is chosen where nothing is of either
chosen-unmeasured : (hit : Bool) (put old : Option RealmRecord)
    → option_map unmeasured_realm (if hit then put else old) ≡ (if hit then option_map unmeasured_realm put else option_map unmeasured_realm old)
chosen-unmeasured true put old = refl
chosen-unmeasured false put old = refl

-- a realm's record is put in with nothing measured
pub with_realm-unmeasured : (s : State) (rd : ℕ) (realm : RealmRecord)
    → unmeasured (with_realm s rd realm) ≡ with_realm (unmeasured s) rd (unmeasured_realm realm)
with_realm-unmeasured s rd realm = λ i. record (unmeasured s) {
  realm = λ other. chosen-unmeasured (other == rd) (Some realm) (s.realm other) i;
}

-- a realm is gone from the state with nothing measured
without_realm-unmeasured : (s : State) (rd : ℕ) → unmeasured (without_realm s rd) ≡ without_realm (unmeasured s) rd
without_realm-unmeasured s rd = λ i. record (without_realm (unmeasured s) rd) {
  realm = λ other. chosen-unmeasured (other == rd) None (s.realm other) i;
}

-- an update takes no other part of a record from its measurements
realm_updated-unmeasured : (update : RealmUpdate) (realm : RealmRecord)
    → unmeasured_realm (realm_updated update realm) ≡ unmeasured_realm (realm_updated update (unmeasured_realm realm))
unfolding realm_updated
realm_updated-unmeasured realm_update.Activated realm = refl
realm_updated-unmeasured _ realm = refl

-- so records that differ in measurements alone are updated alike
realm_updated-alike : (update : RealmUpdate) (r q : RealmRecord) → unmeasured_realm r ≡ unmeasured_realm q
    → unmeasured_realm (realm_updated update r) ≡ unmeasured_realm (realm_updated update q)
realm_updated-alike update r q same =
    realm_updated-unmeasured update r ∙ ap (λ (x : RealmRecord). unmeasured_realm (realm_updated update x)) same
    ∙ sym (realm_updated-unmeasured update q)

-- the records that are read of a realm differ in measurements alone
realm_at-alike : (s t : State) (rd : ℕ) → Alike s t → unmeasured_realm (realm_at s rd) ≡ unmeasured_realm (realm_at t rd)
realm_at-alike s t rd same = sym (realm_at-unmeasured s rd) ∙ ap (λ (u : State). realm_at u rd) same ∙ realm_at-unmeasured t rd

-- the states stay alike where records that differ in measurements alone are put in
with_realm-alike : (s t : State) (rd : ℕ) (r q : RealmRecord) → Alike s t → unmeasured_realm r ≡ unmeasured_realm q
    → Alike (with_realm s rd r) (with_realm t rd q)
with_realm-alike s t rd r q same put =
    with_realm-unmeasured s rd r ∙ (λ i. with_realm (same i) rd (put i)) ∙ sym (with_realm-unmeasured t rd q)

-- they stay so where a realm's record is updated in both
updated-alike : (s t : State) (rd : ℕ) (update : RealmUpdate) → Alike s t
    → Alike (with_realm s rd (realm_updated update (realm_at s rd))) (with_realm t rd (realm_updated update (realm_at t rd)))
updated-alike s t rd update same =
    with_realm-alike s t rd _ _ same (realm_updated-alike update (realm_at s rd) (realm_at t rd) (realm_at-alike s t rd same))

-- an update of a realm's record may be none
realm_change-alike : (s t : State) (change : Option RealmChange) → Alike s t → Alike (with_realm_change s change) (with_realm_change t change)
realm_change-alike s t None same = same
realm_change-alike s t (Some change) same = updated-alike s t change.rd change.update same

-- they stay so where a REC's record is updated in both
rec_change-alike : (s t : State) (change : Option RecChange) → Alike s t → Alike (with_rec_change s change) (with_rec_change t change)
unfolding rec_at
rec_change-alike s t None same = same
rec_change-alike s t (Some change) same = ap (λ (u : State). with_rec_change u (Some change)) same

-- they stay so where a tag is put
tag_change-alike : (s t : State) (change : Option TagChange) → Alike s t → Alike (with_tag_change s change) (with_tag_change t change)
tag_change-alike s t None same = same
tag_change-alike s t (Some change) same = ap (λ (u : State). with_tag_change u (Some change)) same

-- they stay so where entries are changed
entry_change-alike : (s t : State) (rd level : ℕ) (change : EntryChange) → Alike s t
    → Alike (with_entry_change s rd level change) (with_entry_change t rd level change)
entry_change-alike s t rd level (Replaced number entry) same = ap (λ (u : State). with_entry_change u rd level (Replaced number entry)) same
entry_change-alike s t rd level (RipasSet first last ripas) same =
    ap (λ (u : State). with_entry_change u rd level (RipasSet first last ripas)) same

-- so a change of each kind leaves states that differ in measurements alone
pub changed-alike : (s t : State) (change : Change) → Alike s t → Alike (changed s change) (changed t change)
unfolding changed realm_at
changed-alike s t Unchanged same = same
changed-alike s t (Retagged change) same = ap (λ (u : State). with_tag u change.granule change.tag) same
changed-alike s t (RealmMade rd root width level vmid algo) same =
    let tags : State → State = λ u. with_tag (with_tag u rd Rd) root Rtt in
    let new = new_realm root width level vmid algo in
    ap (λ (u : State). with_root u rd level root) (with_realm-alike (tags s) (tags t) rd new new (ap tags same) refl)
changed-alike s t (RealmDestroyed rd root) same =
    let tags : State → State = λ u. with_tag (with_tag u rd Delegated) root Delegated in
    without_realm-unmeasured (tags s) rd ∙ ap (λ (u : State). without_realm (tags u) rd) same ∙ sym (without_realm-unmeasured (tags t) rd)
changed-alike s t (RecMade rd rec mpidr flags aux0 aux1) same =
    let tags : State → State = λ u. with_tag (with_tag (with_tag u rec Rec) aux0 RecAux) aux1 RecAux in
    ap (λ (u : State). with_rec u rec (new_rec rd mpidr flags aux0 aux1))
    (updated-alike (tags s) (tags t) rd (realm_update.RecCounted mpidr flags) (ap tags same))
changed-alike s t (RecDestroyed rec aux0 aux1) same =
    ap (λ (u : State). without_rec (with_tag (with_tag (with_tag u rec Delegated) aux0 Delegated) aux1 Delegated) rec) same
changed-alike s t (RecordsChanged realm rec) same =
    rec_change-alike (with_realm_change s realm) (with_realm_change t realm) rec (realm_change-alike s t realm same)
changed-alike s t (TableMade rd level number rtt entry) same =
    ap (λ (u : State). with_table (with_tag u rtt Rtt) rd level number rtt entry) same
changed-alike s t (TableDestroyed rd level number rtt entry) same =
    ap (λ (u : State). without_table (with_tag u rtt Delegated) rd level number entry) same
changed-alike s t (EntriesChanged rd level entries page realm rec) same =
    let tagged = tag_change-alike s t page same in
    let realms = realm_change-alike (with_tag_change s page) (with_tag_change t page) realm tagged in
    let recs = rec_change-alike (with_realm_change (with_tag_change s page) realm) (with_realm_change (with_tag_change t page) realm) rec realms in
    entry_change-alike _ _ rd level entries recs
