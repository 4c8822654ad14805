-- Live parts are of live realms and RECs, and a live realm's RECs stay live.
use Rattle.verdict_laws.proofs.Common.{◌≡◌, ℕ, ◌==◌, ◌||◌, ◌⊎◌, Bool, true, false, if◌then◌else◌, List, Option, Some, None, inl, inr, refl, sym, ◌∙◌, ap, subst, false_from_ne_true, or_cases, or_right, same_Some, Change, RecMade, RecDestroyed, RecordsChanged, EntriesChanged, Replaced, RipasSet, RealmChange, RecChange, TagChange, Tag, Rd, RecAux, Rtt, CanApply, changed, new_rec, rec_updated, with_realm_change, with_rec_change, with_tag_change, Config, rec_at, IsRun, JournalEntry, IsSound, RecRecord, State, opening, both_ways, tag-has_tag, by_address, with_records, rec_there, is_part, unused_tag}
use Rattle.rmm_spec.specs.declared.tag.Tag.TheVariants.{Data}
use Rattle.rmm_spec.specs.Applicable.{CanChangeRec}
use Rattle.rmm_spec.specs.Ownership.{Claim, IsTied}
use Rattle.rmm_laws.proofs.Cases.{nothing_there}
use Rattle.rmm_laws.proofs.Isolation.{run-owned}
use Rattle.rmm_laws.proofs.Keeps.{realm_change-rest, rec_updated-like, tag_change-rest}
use Rattle.rmm_laws.proofs.Ties.{IsUnused, aux-has_aux, tied-tag}
use Rattle.verdict_laws.proofs.SliceTerms.{IsPut, masked}
use Rattle.verdict_laws.proofs.Touched.{ArePartsOutside}

-- ---- parts

-- a part is in use
part_used : (tag : Tag) → is_part tag ≡ true → IsUnused tag → ⊥
part_used tag part unused = elim unused [ inl host ↦ both_ways part (ap is_part host) | inr lent ↦ both_ways part (ap is_part lent) ]

-- what is there behind a mask is live
pub behind_mask : {A : Type 0} (lives : Bool) (found : Option A) (x : A) → (if lives then found else None) ≡ Some x
    → (lives ≡ true) × (found ≡ Some x)
behind_mask true found x is = (refl, is)
behind_mask false found x is = nothing_there refl is

module _ (config : Config) (entries : List JournalEntry) (live lent : ℕ → Bool) (s : State)
    (run : IsRun (opening config) entries (masked live lent s)) (sound : IsSound s) where
  -- a live part is tied to a realm behind the mask
  part-tied : (role : Tag) (g : ℕ) → s.tag g ≡ role → is_part role ≡ true → live g ≡ true → (realm : ℕ) × IsTied role (masked live lent s) g realm
  part-tied role g tag part lives =
      let t = masked live lent s in
      let kept = run-owned config entries t run in
      let here : t.tag g ≡ role = rw lives tag in
      elim (kept.1.each g) [
        | inl free ↦ absurd (part_used role part (subst IsUnused here free.1))
        | inr taken ↦
            (let c : Claim = taken.0 in
            let same : c.role ≡ role =
            sym (tag-has_tag t c.granule c.role (tied-tag t c.role c.granule c.realm kept.0 taken.3)) ∙ ap t.tag taken.1 ∙ here in
            (c.realm, subst (λ r. IsTied r t g c.realm) same (subst (λ x. IsTied c.role t x c.realm) taken.1 taken.3)))
      ]

  -- so a part isn't live where its tie behind the mask needs something live that isn't
  part-outside : (role : Tag) (g realm x : ℕ) → IsTied role s g realm → is_part role ≡ true → live x ≡ false
      → ((other : ℕ) → IsTied role (masked live lent s) g other → live x ≡ true) → live g ≡ false
  part-outside role g realm x tied part outside inside =
      false_from_ne_true (live g)
      (λ lives. let found = part-tied role g (tag-has_tag s g role (tied-tag s role g realm sound tied)) part lives in
      both_ways (inside found.0 found.1) outside)

  -- so it is with an auxiliary granule of a REC that isn't live
  aux-outside : (g aux : ℕ) (rec : RecRecord) → s.rec g ≡ Some rec → (rec.aux0 ≡ aux) ⊎ (rec.aux1 ≡ aux) → live g ≡ false → live aux ≡ false
  aux-outside g aux rec there has outside =
      part-outside RecAux aux rec.owner g (g, rec, there, refl, has) refl outside
      (λ realm tied. let found = behind_mask (live tied.0) (s.rec tied.0) tied.1 tied.2 in
      ap live (sound.recs.apart g tied.0 aux (aux-has_aux s g aux rec there has) (aux-has_aux s tied.0 aux tied.1 found.1 tied.4)) ∙ found.0)

-- where the state behind the mask is one that a run comes to, the parts of what isn't live aren't live
pub parts_outside : (config : Config) (entries : List JournalEntry) (live lent : ℕ → Bool) (s : State)
    → IsRun (opening config) entries (masked live lent s) → IsSound s → ArePartsOutside live s
parts_outside config entries live lent s run sound = record {
  tables = λ rd level number granule there outside.
      part-outside config entries live lent s run sound Rtt granule rd rd (level, number, there) refl outside
      (λ other tied. let found = behind_mask (live other) (s.table other tied.0 tied.1) granule tied.2 in
      ap live (sound.tables.apart rd level number other tied.0 tied.1 granule there found.1).0 ∙ found.0);
  pages = λ rd level number granule ripas there outside.
      part-outside config entries live lent s run sound Data granule rd rd (level, number, ripas, there) refl outside
      (λ other tied. let found = behind_mask (live other) (s.leaf other tied.0 tied.1) _ tied.3 in
      ap live (sound.leaves.apart rd level number other tied.0 tied.1 granule ripas tied.2 there found.1).0 ∙ found.0);
  auxes = λ g rec there outside. (
    aux-outside config entries live lent s run sound g rec.aux0 rec there (inl refl) outside,
    aux-outside config entries live lent s run sound g rec.aux1 rec there (inr refl) outside,
  );
}

-- ---- RECs behind a change

-- the REC whose record a change replaces, and how, if it does
abbrev pub rec_replaced : Change → Option RecChange
rec_replaced (RecordsChanged realm rec) = rec
rec_replaced (EntriesChanged rd level entries page realm rec) = rec
rec_replaced _ = None

-- whether it is the one at the granule
abbrev pub is_replaced : Option RecChange → ℕ → Bool
is_replaced None g = false
is_replaced (Some change) g = g == change.rec

-- each REC has it, with its granule
abbrev pub EachRec : (ℕ → RecRecord → Type 0) → (ℕ → Option RecRecord) → Type 0
EachRec Has recs = (g : ℕ) (rec : RecRecord) → recs g ≡ Some rec → Has g rec

-- each has it but the one that is replaced
abbrev pub EachOther : (ℕ → RecRecord → Type 0) → Option RecChange → (ℕ → Option RecRecord) → Type 0
EachOther Has change recs = (g : ℕ) (rec : RecRecord) → is_replaced change g ≡ false → recs g ≡ Some rec → Has g rec

-- so does the record that replaces one, if one does
abbrev pub HasReplaced : (ℕ → RecRecord → Type 0) → State → Option RecChange → Type 0
HasReplaced Has s None = Unit {0}
HasReplaced Has s (Some change) = Has change.rec (rec_updated change.update (rec_at s change.rec))

-- so does each that a change puts
abbrev pub HasPut : (ℕ → RecRecord → Type 0) → State → Change → Type 0
HasPut Has s (RecMade rd rec mpidr flags aux0 aux1) = Has rec (new_rec rd mpidr flags aux0 aux1)
HasPut Has s change = HasReplaced Has s (rec_replaced change)

-- a REC is put among those
EachRec-put : (Has : ℕ → RecRecord → Type 0) (recs : ℕ → Option RecRecord) (a : ℕ) (new : RecRecord) → Has a new
    → ((g : ℕ) (rec : RecRecord) → (g == a) ≡ false → recs g ≡ Some rec → Has g rec) → EachRec Has (λ g. if g == a then Some new else recs g)
EachRec-put Has recs a new has each g rec =
    by_address (λ found. found ≡ Some rec → Has g rec) g a (Some new) (recs g)
    (λ here is. subst (Has g) (same_Some new rec is) (subst (λ x. Has x new) (sym here) has)) (each g rec)

-- one is taken out
EachRec-left : (Has : ℕ → RecRecord → Type 0) (recs : ℕ → Option RecRecord) (a : ℕ) → EachRec Has recs
    → EachRec Has (λ g. if g == a then None else recs g)
EachRec-left Has recs a each g rec =
    by_address (λ found. found ≡ Some rec → Has g rec) g a None (recs g) (λ _ none. nothing_there refl none) (λ _. each g rec)

-- one is replaced, or none is, in a state that has those
EachRec-replaced : (Has : ℕ → RecRecord → Type 0) (s t : State) (change : Option RecChange) → t.rec ≡ s.rec → HasReplaced Has s change
    → EachOther Has change s.rec → EachRec Has (with_rec_change t change).rec
unfolding rec_at
EachRec-replaced Has s t None same put each = subst (EachRec Has) (sym same) (λ g rec. each g rec refl)
EachRec-replaced Has s t (Some change) same put each =
    subst (λ recs. EachRec Has (with_rec_change (record t { rec = recs }) (Some change)).rec) (sym same) (EachRec-put Has s.rec change.rec _ put each)

-- so it is behind a page's tag and a realm's record
EachRec-records : (Has : ℕ → RecRecord → Type 0) (s : State) (page : Option TagChange) (realm : Option RealmChange) (rec : Option RecChange)
    → HasReplaced Has s rec → EachOther Has rec s.rec → EachRec Has (with_records s page realm rec).rec
EachRec-records Has s page realm rec =
    EachRec-replaced Has s (with_realm_change (with_tag_change s page) realm) rec
    ((realm_change-rest (with_tag_change s page) realm).3 ∙ (tag_change-rest s page).3)

-- behind a change each REC has it, where each had it that isn't replaced, and each that is put has it
pub EachRec-changed : (Has : ℕ → RecRecord → Type 0) (s : State) (change : Change) → HasPut Has s change
    → EachOther Has (rec_replaced change) s.rec → EachRec Has (changed s change).rec
unfolding changed
EachRec-changed Has s (RecMade rd rec mpidr flags aux0 aux1) put each =
    EachRec-put Has s.rec rec (new_rec rd mpidr flags aux0 aux1) put (λ g old _. each g old refl)
EachRec-changed Has s (RecDestroyed rec aux0 aux1) put each = EachRec-left Has s.rec rec (λ g old. each g old refl)
EachRec-changed Has s (RecordsChanged realm rec) put each = EachRec-records Has s None realm rec put each
EachRec-changed Has s (EntriesChanged rd level (Replaced number entry) page realm rec) put each = EachRec-records Has s page realm rec put each
EachRec-changed Has s (EntriesChanged rd level (RipasSet first last ripas) page realm rec) put each = EachRec-records Has s page realm rec put each
EachRec-changed Has s _ put each = λ g old. each g old refl

-- where a change can be made, the record can be replaced
pub replaced_can : (s : State) (change : Change) → CanApply s change → CanChangeRec s (rec_replaced change)
replaced_can s (RecordsChanged realm rec) can = can.1
replaced_can s (EntriesChanged rd level entries page realm rec) can = can.3
replaced_can s _ can = tt

-- ---- RECs of live realms

-- the tag of a realm's granule is no unused one
pub rd_used : (lends : Bool) → Rd ≡ unused_tag lends → ⊥
rd_used true same = cc
rd_used false same = cc

-- each REC of a live realm is live
abbrev pub HaveLiveRecs : (ℕ → Bool) → State → Type 0
HaveLiveRecs live s = (g : ℕ) (rec : RecRecord) → s.rec g ≡ Some rec → live rec.owner ≡ true → live g ≡ true

-- so it is where unused granules become live
pub HaveLiveRecs-grown : (live more lent : ℕ → Bool) (s : State) → IsSound s
    → ((g : ℕ) → more g ≡ true → live g ≡ false → s.tag g ≡ unused_tag (lent g)) → HaveLiveRecs live s
    → HaveLiveRecs (λ g. more g || live g) s
HaveLiveRecs-grown live more lent s sound unused have g rec is lives =
    let owns : live rec.owner ≡ true =
    elim (or_cases (more rec.owner) (live rec.owner) lives) [ inl grown ↦ by grown (live rec.owner) refl | inr old ↦ old ] in
    or_right (more g) (live g) (have g rec is owns)
  where
    by : more rec.owner ≡ true → (b : Bool) → live rec.owner ≡ b → live rec.owner ≡ true
    by grown true old = old
    by grown false new =
        absurd (rd_used (lent rec.owner) (sym (tag-has_tag s rec.owner Rd (sound.recs.owned g rec is)) ∙ unused rec.owner grown new))

-- what is so of each REC there
abbrev IsLiveWith : (ℕ → Bool) → ℕ → RecRecord → Type 0
IsLiveWith live g rec = live rec.owner ≡ true → live g ≡ true

-- an update keeps a REC's realm
replaced_live : (live : ℕ → Bool) (s : State) (change : Option RecChange) → IsSound s → CanChangeRec s change → HaveLiveRecs live s
    → HasReplaced (IsLiveWith live) s change
replaced_live live s None sound can have = tt
replaced_live live s (Some change) sound can have = λ lives.
    let old = rec_at s change.rec in
    let like = rec_updated-like change.update old in
    have change.rec old (rec_there s change.rec sound can.0)
    (ap live (sym like.2 ∙ ap (λ (x : RecRecord). x.owner) (sym (same_Some (rec_updated change.update old) like.0 like.1))) ∙ lives)

-- so what such a change puts is live where its realm is
put_live : (live : ℕ → Bool) (is : Bool) (s : State) (change : Change) → IsSound s → CanApply s change → IsPut live is change → HaveLiveRecs live s
    → HasPut (IsLiveWith live) s change
put_live live is s (RecMade rd rec mpidr flags aux0 aux1) sound can put have = λ lives. put.1 ∙ sym put.0 ∙ lives
put_live live is s change sound can put have = replaced_live live s (rec_replaced change) sound (replaced_can s change can) have

-- and behind a change of live granules alone, or of others alone
pub HaveLiveRecs-changed : (live : ℕ → Bool) (is : Bool) (s : State) (change : Change) → IsSound s → CanApply s change → IsPut live is change
    → HaveLiveRecs live s → HaveLiveRecs live (changed s change)
HaveLiveRecs-changed live is s change sound can put have =
    EachRec-changed (IsLiveWith live) s change (put_live live is s change sound can put have) (λ g rec _. have g rec)
