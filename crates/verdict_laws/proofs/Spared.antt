-- Changes that leave the tag of a granule, and whether a CPU is inside of a REC.
use Rattle.verdict_laws.proofs.Common.{◌≡◌, ℕ, ◌*◌, ◌==◌, Bool, true, false, if◌then◌else◌, Option, Some, None, refl, sym, ◌∙◌, ap, eqb-true, unwrap_or, Change, Unchanged, Retagged, RealmMade, RealmDestroyed, RecMade, RecDestroyed, RecordsChanged, TableMade, TableDestroyed, EntriesChanged, Replaced, RipasSet, RealmChange, RecChange, TagChange, Tag, Delegated, Rd, Rec, RecAux, Rtt, State, RecRecord, changed, new_rec, realm_updated, rec_updated, with_tag_change, with_realm_change, with_rec_change, runs_on, is_inside, no_rec, realm_at, rec_at, both_ways, by_address}
use Rattle.rmm_spec.specs.declared.change.EntryChange.{EntryChange}
use Rattle.rmm_spec.specs.declared.change.RealmUpdate.TheVariants as realm_update
use Rattle.rmm_spec.specs.Update.{with_tag, with_realm, without_realm, with_root, with_rec, without_rec, with_table, without_table}
use Rattle.rmm_spec.specs.Change.{new_realm, with_entry_change}
use Rattle.rmm_spec.specs.Lookup.{any_below, is_cpu}
use Rattle.rmm_laws.proofs.Cases.{at_itself}

-- ---- what is asked of a change

-- another granule's tag is put, or none
abbrev SparesTag : ℕ → Option TagChange → Type 0
SparesTag granule None = Unit {0}
SparesTag granule (Some change) = (change.granule == granule) ≡ false

-- the REC whose record is replaced runs on the CPU where it did
abbrev SparesRec : (ℕ → Option RecRecord) → ℕ → Option RecChange → Type 0
SparesRec recs cpu None = Unit {0}
SparesRec recs cpu (Some change) =
    let old = unwrap_or (recs change.rec) no_rec in is_cpu cpu (rec_updated change.update old).cpu ≡ is_cpu cpu old.cpu

-- the tag of the granule isn't put, and no REC comes to run on the CPU or leaves it
abbrev pub Spares : State → ℕ → ℕ → Change → Type 0
Spares s granule cpu Unchanged = Unit {0}
Spares s granule cpu (Retagged change) = (change.granule == granule) ≡ false
Spares s granule cpu (RealmMade rd root width level vmid algo) = ((rd == granule) ≡ false) × ((root == granule) ≡ false)
Spares s granule cpu (RealmDestroyed rd root) = ((rd == granule) ≡ false) × ((root == granule) ≡ false)
Spares s granule cpu (RecMade rd rec mpidr flags aux0 aux1) =
    ((rec == granule) ≡ false) × ((aux0 == granule) ≡ false) × ((aux1 == granule) ≡ false) × (runs_on cpu (s.rec rec) ≡ false)
Spares s granule cpu (RecDestroyed rec aux0 aux1) =
    ((rec == granule) ≡ false) × ((aux0 == granule) ≡ false) × ((aux1 == granule) ≡ false) × (runs_on cpu (s.rec rec) ≡ false)
Spares s granule cpu (RecordsChanged realm rec) = SparesRec s.rec cpu rec
Spares s granule cpu (TableMade rd level number rtt entry) = (rtt == granule) ≡ false
Spares s granule cpu (TableDestroyed rd level number rtt entry) = (rtt == granule) ≡ false
Spares s granule cpu (EntriesChanged rd level entries page realm rec) = SparesTag granule page × SparesRec s.rec cpu rec

-- ---- the granule's tag may be put before the change or behind it

-- two values that are put at places apart, in either order
swapped_by : {A : Type 0} (here there : Bool) (x y old : A) → (here ≡ true → there ≡ false)
    → (if here then x else (if there then y else old)) ≡ (if there then y else (if here then x else old))
swapped_by true true x y old apart = both_ways refl (apart refl)
swapped_by true false x y old apart = refl
swapped_by false there x y old apart = refl

-- behind one other tag
with_tag-swapped : (s : State) (granule other : ℕ) (tag given : Tag) → (other == granule) ≡ false
    → with_tag (with_tag s granule tag) other given ≡ with_tag (with_tag s other given) granule tag
with_tag-swapped s granule other tag given apart = λ i. record s {
  tag = λ g. swapped_by (g == other) (g == granule) given tag (s.tag g) (λ hit. rw (eqb-true g other hit) apart) i;
}

-- behind two
with_tag-swapped_twice : (s : State) (granule one two : ℕ) (tag first second : Tag) → (one == granule) ≡ false → (two == granule) ≡ false
    → with_tag (with_tag (with_tag s granule tag) one first) two second ≡ with_tag (with_tag (with_tag s one first) two second) granule tag
with_tag-swapped_twice s granule one two tag first second apart other =
    ap (λ (u : State). with_tag u two second) (with_tag-swapped s granule one tag first apart)
    ∙ with_tag-swapped (with_tag s one first) granule two tag second other

-- behind the tag of a page, if there is one
tag_change-swapped : (s : State) (granule : ℕ) (tag : Tag) (change : Option TagChange) → SparesTag granule change
    → with_tag_change (with_tag s granule tag) change ≡ with_tag (with_tag_change s change) granule tag
tag_change-swapped s granule tag None spares = refl
tag_change-swapped s granule tag (Some change) spares = with_tag-swapped s granule change.granule tag change.tag spares

-- behind the record of a realm
realm_change-swapped : (s : State) (granule : ℕ) (tag : Tag) (change : Option RealmChange)
    → with_realm_change (with_tag s granule tag) change ≡ with_tag (with_realm_change s change) granule tag
unfolding realm_at
realm_change-swapped s granule tag None = refl
realm_change-swapped s granule tag (Some change) = refl

-- behind the record of a REC
rec_change-swapped : (s : State) (granule : ℕ) (tag : Tag) (change : Option RecChange)
    → with_rec_change (with_tag s granule tag) change ≡ with_tag (with_rec_change s change) granule tag
unfolding rec_at
rec_change-swapped s granule tag None = refl
rec_change-swapped s granule tag (Some change) = refl

-- behind entries
entry_change-swapped : (s : State) (granule : ℕ) (tag : Tag) (rd level : ℕ) (change : EntryChange)
    → with_entry_change (with_tag s granule tag) rd level change ≡ with_tag (with_entry_change s rd level change) granule tag
entry_change-swapped s granule tag rd level (Replaced number entry) = refl
entry_change-swapped s granule tag rd level (RipasSet first last ripas) = refl

-- behind both records
records-swapped : (s : State) (granule : ℕ) (tag : Tag) (realm : Option RealmChange) (rec : Option RecChange)
    → with_rec_change (with_realm_change (with_tag s granule tag) realm) rec ≡ with_tag (with_rec_change (with_realm_change s realm) rec) granule tag
records-swapped s granule tag realm rec =
    ap (λ (u : State). with_rec_change u rec) (realm_change-swapped s granule tag realm)
    ∙ rec_change-swapped (with_realm_change s realm) granule tag rec

-- behind a change of each kind
pub changed-swapped : (s : State) (granule cpu : ℕ) (tag : Tag) (change : Change) → Spares s granule cpu change
    → changed (with_tag s granule tag) change ≡ with_tag (changed s change) granule tag
unfolding changed realm_at
changed-swapped s granule cpu tag Unchanged spares = refl
changed-swapped s granule cpu tag (Retagged change) spares = with_tag-swapped s granule change.granule tag change.tag spares
changed-swapped s granule cpu tag (RealmMade rd root width level vmid algo) spares =
    let made : State → State = λ u. with_root (with_realm u rd (new_realm root width level vmid algo)) rd level root in
    ap made (with_tag-swapped_twice s granule rd root tag Rd Rtt spares.0 spares.1)
changed-swapped s granule cpu tag (RealmDestroyed rd root) spares =
    ap (λ (u : State). without_realm u rd) (with_tag-swapped_twice s granule rd root tag Delegated Delegated spares.0 spares.1)
changed-swapped s granule cpu tag (RecMade rd rec mpidr flags aux0 aux1) spares =
    let counted = realm_updated (realm_update.RecCounted mpidr flags) (realm_at s rd) in
    let made : State → State = λ u. with_rec (with_realm u rd counted) rec (new_rec rd mpidr flags aux0 aux1) in
    ap (λ (u : State). made (with_tag u aux1 RecAux)) (with_tag-swapped_twice s granule rec aux0 tag Rec RecAux spares.0 spares.1)
    ∙ ap made (with_tag-swapped (with_tag (with_tag s rec Rec) aux0 RecAux) granule aux1 tag RecAux spares.2)
changed-swapped s granule cpu tag (RecDestroyed rec aux0 aux1) spares =
    ap (λ (u : State). without_rec (with_tag u aux1 Delegated) rec)
    (with_tag-swapped_twice s granule rec aux0 tag Delegated Delegated spares.0 spares.1)
    ∙ ap (λ (u : State). without_rec u rec)
    (with_tag-swapped (with_tag (with_tag s rec Delegated) aux0 Delegated) granule aux1 tag Delegated spares.2)
changed-swapped s granule cpu tag (RecordsChanged realm rec) spares = records-swapped s granule tag realm rec
changed-swapped s granule cpu tag (TableMade rd level number rtt entry) spares =
    ap (λ (u : State). with_table u rd level number rtt entry) (with_tag-swapped s granule rtt tag Rtt spares)
changed-swapped s granule cpu tag (TableDestroyed rd level number rtt entry) spares =
    ap (λ (u : State). without_table u rd level number entry) (with_tag-swapped s granule rtt tag Delegated spares)
changed-swapped s granule cpu tag (EntriesChanged rd level entries page realm rec) spares =
    let tagged = with_tag_change s page in
    ap (λ (u : State). with_entry_change (with_rec_change (with_realm_change u realm) rec) rd level entries)
    (tag_change-swapped s granule tag page spares.0)
    ∙ ap (λ (u : State). with_entry_change u rd level entries) (records-swapped tagged granule tag realm rec)
    ∙ entry_change-swapped (with_rec_change (with_realm_change tagged realm) rec) granule tag rd level entries

-- a tag that is put where it was changes nothing
with_tag-same : (s : State) (granule : ℕ) → with_tag s granule (s.tag granule) ≡ s
with_tag-same s granule = λ i. record s { tag = λ g. at g i }
  where
    at : (g : ℕ) → (if g == granule then s.tag granule else s.tag g) ≡ s.tag g
    at g = by_address (λ t. t ≡ s.tag g) g granule (s.tag granule) (s.tag g) (λ here. ap s.tag (sym here)) (λ _. refl)

-- so the change leaves the granule's tag
pub changed-tag : (s : State) (granule cpu : ℕ) (change : Change) → Spares s granule cpu change → (changed s change).tag granule ≡ s.tag granule
changed-tag s granule cpu change spares =
    let same : changed s change ≡ with_tag (changed s change) granule (s.tag granule) =
    ap (λ (u : State). changed u change) (sym (with_tag-same s granule)) ∙ changed-swapped s granule cpu (s.tag granule) change spares in
    ap (λ (u : State). u.tag granule) same ∙ at_itself granule (s.tag granule) ((changed s change).tag granule)

-- ---- the CPU

-- what is read of a REC says where it runs
pub runs_on-read : (recs : ℕ → Option RecRecord) (cpu rec : ℕ) → runs_on cpu (recs rec) ≡ is_cpu cpu (unwrap_or (recs rec) no_rec).cpu
runs_on-read recs cpu rec = by (recs rec)
  where
    by : (found : Option RecRecord) → runs_on cpu found ≡ is_cpu cpu (unwrap_or found no_rec).cpu
    by None = refl
    by (Some c) = refl

-- the same RECs run on the CPU
abbrev pub RunAlike : ℕ → State → State → Type 0
RunAlike cpu s t = (g : ℕ) → runs_on cpu (t.rec g) ≡ runs_on cpu (s.rec g)

-- where a record is put that runs there as the one before, or none
pub put_rec-runs : (s : State) (cpu rec : ℕ) (new : Option RecRecord) → runs_on cpu new ≡ runs_on cpu (s.rec rec)
    → (g : ℕ) → runs_on cpu (if g == rec then new else s.rec g) ≡ runs_on cpu (s.rec g)
put_rec-runs s cpu rec new same g = by_address (λ found. runs_on cpu found ≡ runs_on cpu (s.rec g)) g rec new (s.rec g)
    (λ here. same ∙ ap (λ a. runs_on cpu (s.rec a)) (sym here)) (λ _. refl)

-- where one is replaced, or none
rec_change-runs : (s : State) (cpu : ℕ) (change : Option RecChange) → SparesRec s.rec cpu change → RunAlike cpu s (with_rec_change s change)
unfolding rec_at
rec_change-runs s cpu None spares g = refl
rec_change-runs s cpu (Some change) spares g =
    put_rec-runs s cpu change.rec (Some (rec_updated change.update (rec_at s change.rec))) (spares ∙ sym (runs_on-read s.rec cpu change.rec)) g

-- behind the record of a realm
realm_change-runs : (s : State) (cpu : ℕ) (realm : Option RealmChange) (rec : Option RecChange) → SparesRec s.rec cpu rec
    → RunAlike cpu s (with_rec_change (with_realm_change s realm) rec)
realm_change-runs s cpu None rec spares = rec_change-runs s cpu rec spares
realm_change-runs s cpu (Some change) rec spares = rec_change-runs (with_realm_change s (Some change)) cpu rec spares

-- and the tag of a page
page-runs : (s : State) (cpu : ℕ) (page : Option TagChange) (realm : Option RealmChange) (rec : Option RecChange) → SparesRec s.rec cpu rec
    → RunAlike cpu s (with_rec_change (with_realm_change (with_tag_change s page) realm) rec)
page-runs s cpu None realm rec spares = realm_change-runs s cpu realm rec spares
page-runs s cpu (Some page) realm rec spares = realm_change-runs (with_tag_change s (Some page)) cpu realm rec spares

-- where entries change
entry_change-runs : (s : State) (cpu rd level : ℕ) (change : EntryChange) → RunAlike cpu s (with_entry_change s rd level change)
entry_change-runs s cpu rd level (Replaced number entry) g = refl
entry_change-runs s cpu rd level (RipasSet first last ripas) g = refl

-- where a change of each kind is made
pub changed-runs : (s : State) (granule cpu : ℕ) (change : Change) → Spares s granule cpu change → RunAlike cpu s (changed s change)
unfolding changed
changed-runs s granule cpu Unchanged spares g = refl
changed-runs s granule cpu (Retagged change) spares g = refl
changed-runs s granule cpu (RealmMade rd root width level vmid algo) spares g = refl
changed-runs s granule cpu (RealmDestroyed rd root) spares g = refl
changed-runs s granule cpu (RecMade rd rec mpidr flags aux0 aux1) spares g =
    put_rec-runs s cpu rec (Some (new_rec rd mpidr flags aux0 aux1)) (sym spares.3) g
changed-runs s granule cpu (RecDestroyed rec aux0 aux1) spares g = put_rec-runs s cpu rec None (sym spares.3) g
changed-runs s granule cpu (RecordsChanged realm rec) spares g = realm_change-runs s cpu realm rec spares g
changed-runs s granule cpu (TableMade rd level number rtt entry) spares g = refl
changed-runs s granule cpu (TableDestroyed rd level number rtt entry) spares g = refl
changed-runs s granule cpu (EntriesChanged rd level entries page realm rec) spares g =
    entry_change-runs (with_rec_change (with_realm_change (with_tag_change s page) realm) rec) cpu rd level entries g
    ∙ page-runs s cpu page realm rec spares.1 g

-- a CPU on which the same RECs run is inside of one where it was
pub is_inside-alike : (s t : State) (cpu : ℕ) → t.config ≡ s.config → RunAlike cpu s t → is_inside t cpu ≡ is_inside s cpu
unfolding is_inside
is_inside-alike s t cpu same alike = λ i. any_below (same i).granules (λ k. alike (k * 4096) i)
