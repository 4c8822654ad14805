-- What each kind of change leaves of what is known of a register: of the RECs, and of its realm.
use Rattle.verdict_laws.proofs.Common.{◌≡◌, ℕ, ◌-◌, ◌≤◌, ◌==◌, ◌&&◌, if◌then◌else◌, Bool, true, false, IsTrue, List, [], Option, Some, None, length, refl, sym, ◌∙◌, ap, arith, inl, inr, ne_eqb, both_ways, Change, RealmMade, RealmDestroyed, RecMade, RecDestroyed, RecordsChanged, EntriesChanged, Replaced, RipasSet, RealmChange, RecChange, TagChange, Measurement, Rd, CanApply, changed, realm_updated, rec_updated, with_tag_change, with_realm_change, with_rec_change, has_tag, realm_at, rec_at, IsSound, RealmRecord, RecRecord, State, with_records, realm_there, rec_there, Register}
use Rattle.std.specs.Prelude.{option_map, slice_index_or, slice_set, take}
use Rattle.std.proofs.lemmas.Bool.{eq-eqb, eqb-true}
use Rattle.std.proofs.lemmas.List.{get_or-replicate, get_or-set_same, get_or-set_other}
use Rattle.rmm_spec.specs.declared.change.RealmUpdate.{RealmUpdate}
use Rattle.rmm_spec.specs.declared.change.RealmUpdate.TheVariants as realm_update
use Rattle.rmm_spec.specs.declared.change.RecUpdate.{RecUpdate}
use Rattle.rmm_spec.specs.declared.change.RecUpdate.TheVariants as rec_update
use Rattle.rmm_spec.specs.declared.measurement.Measurement.TheVariants.{Sha256}
use Rattle.rmm_spec.specs.Applicable.{CanChangeRealm, CanChangeRec}
use Rattle.rmm_spec.specs.Change.{measurement_at, new_realm}
use Rattle.rmm_spec.specs.Measure.{rem_extended, rem_start, words_bytes}
use Rattle.rmm_laws.proofs.Cases.{nothing_there, left_of}
use Rattle.rmm_laws.proofs.Keeps.{tag_change-rest, realm_change-rest, rec_change-rest}
use Rattle.rmm_laws.proofs.Searches.{realm_at-is, rec_at-is}
use Rattle.rmm_laws.proofs.Tests.{chosen}
use Rattle.verdict_laws.specs.Registers.{Begins, Extends, IsRegister, value_after}

-- ---- RECs

-- what is known of a REC at an address: whether it is mine, and that its CPU entered it last
abbrev pub IsKnownRec : Register → (ℕ → Bool) → (ℕ → Option ℕ) → ℕ → RecRecord → Type 0
IsKnownRec register mine entered g c = (mine g ≡ (c.owner == register.rd)) × ((cpu : ℕ) → c.cpu ≡ Some cpu → entered cpu ≡ Some g)

-- so of all
abbrev pub AreKnownRecs : Register → (ℕ → Bool) → (ℕ → Option ℕ) → (ℕ → Option RecRecord) → Type 0
AreKnownRecs register mine entered recs = (g : ℕ) (c : RecRecord) → recs g ≡ Some c → IsKnownRec register mine entered g c

-- a REC is entered
abbrev is_entry : RecUpdate → Bool
is_entry (rec_update.Entered cpu) = true
is_entry _ = false

abbrev enters : Option RecChange → Bool
enters None = false
enters (Some change) = is_entry change.update

-- a REC is made, or entered
abbrev pub touches_rec : Change → Bool
touches_rec (RecMade rd rec mpidr flags aux0 aux1) = true
touches_rec (RecordsChanged realm rec) = enters rec
touches_rec (EntriesChanged rd level entries page realm rec) = enters rec
touches_rec _ = false

module _ (register : Register) (mine : ℕ → Bool) (entered : ℕ → Option ℕ) where
  -- a REC is put in of which that is known
  pub put-recs : (recs : ℕ → Option RecRecord) (rec : ℕ) (new : RecRecord) → AreKnownRecs register mine entered recs
      → IsKnownRec register mine entered rec new → AreKnownRecs register mine entered (λ g. if g == rec then Some new else recs g)
  put-recs recs rec new known put g c is = elim (chosen (g == rec) (Some new) (recs g) (Some c) is) [
    | inl p ↦ (let same : new ≡ c = (let both : Some new ≡ Some c = p.1 in cc) in rw (eqb-true g rec p.0, ← same) put)
    | inr p ↦ known g c p.1
  ]

  -- a REC is taken out
  gone-recs : (recs : ℕ → Option RecRecord) (rec : ℕ) → AreKnownRecs register mine entered recs
      → AreKnownRecs register mine entered (λ g. if g == rec then None else recs g)
  gone-recs recs rec known g c is = known g c (left_of (g == rec) (recs g) c is).1

  -- an update but an entry leaves what is known of a REC
  updated-rec : (update : RecUpdate) (g : ℕ) (c : RecRecord) → is_entry update ≡ false → IsKnownRec register mine entered g c
      → IsKnownRec register mine entered g (rec_updated update c)
  unfolding rec_updated
  updated-rec (rec_update.Entered cpu) g c other known = both_ways refl other
  updated-rec rec_update.Exited g c other known = (known.0, λ cpu bad. nothing_there refl bad)
  updated-rec _ g c other known = known

  -- so where a REC's record is replaced
  rec_change-recs : (s t : State) (change : Option RecChange) → IsSound s → CanChangeRec s change → t.rec ≡ s.rec → enters change ≡ false
      → AreKnownRecs register mine entered s.rec → AreKnownRecs register mine entered (with_rec_change t change).rec
  rec_change-recs s t None sound can same other known = rw same known
  rec_change-recs s t (Some change) sound can same other known =
      let is = rec_there s change.rec sound can.0 in
      let here : t.rec change.rec ≡ Some (rec_at s change.rec) = ap (λ (f : ℕ → Option RecRecord). f change.rec) same ∙ is in
      put-recs t.rec change.rec (rec_updated change.update (rec_at t change.rec)) (rw same known)
      (updated-rec change.update change.rec (rec_at t change.rec) other
      (rw (rec_at-is t change.rec (rec_at s change.rec) here) (known change.rec (rec_at s change.rec) is)))

  -- with a page's tag and a realm's record before it
  with_records-recs : (s : State) (page : Option TagChange) (realm : Option RealmChange) (rec : Option RecChange) → IsSound s → CanChangeRec s rec
      → enters rec ≡ false → AreKnownRecs register mine entered s.rec → AreKnownRecs register mine entered (with_records s page realm rec).rec
  with_records-recs s page realm rec sound can other known =
      rec_change-recs s (with_realm_change (with_tag_change s page) realm) rec sound can
      ((realm_change-rest (with_tag_change s page) realm).3 ∙ (tag_change-rest s page).3) other known

  -- a change that makes and enters no REC leaves what is known of them
  pub changed-recs : (s : State) (change : Change) → IsSound s → CanApply s change → touches_rec change ≡ false
      → AreKnownRecs register mine entered s.rec → AreKnownRecs register mine entered (changed s change).rec
  unfolding changed
  changed-recs s (RecMade rd rec mpidr flags aux0 aux1) sound can other known = both_ways refl other
  changed-recs s (RecDestroyed rec aux0 aux1) sound can other known = gone-recs s.rec rec known
  changed-recs s (RecordsChanged realm rec) sound can other known = with_records-recs s None realm rec sound can.1 other known
  changed-recs s (EntriesChanged rd level (Replaced number entry) page realm rec) sound can other known =
      with_records-recs s page realm rec sound can.3 other known
  changed-recs s (EntriesChanged rd level (RipasSet first last ripas) page realm rec) sound can other known =
      with_records-recs s page realm rec sound can.3 other known
  changed-recs s _ sound can other known = known

-- ---- realms

-- the register of a realm
abbrev pub rem_at : Register → RealmRecord → Measurement
rem_at register realm = slice_index_or realm.rems (register.index - 1) (Sha256 [])

-- it is the measurement of its index
pub measurement_at-rem : (register : Register) (realm : RealmRecord) → IsRegister register
    → measurement_at realm register.index ≡ rem_at register realm
measurement_at-rem register realm is_register =
    let some = is_register.0 in rw (ne_eqb register.index 0 (λ none. omega (arith, none, some))) refl

-- what is known of its realm, where one is there: the value is that of the register
abbrev pub IsKnownRealm : Register → Option Measurement → (ℕ → Option RealmRecord) → Type 0
IsKnownRealm register value realms = (realm : RealmRecord) → realms register.rd ≡ Some realm → value ≡ Some (rem_at register realm)

-- a measurement is extended
abbrev is_extension : RealmUpdate → Bool
is_extension (realm_update.MeasurementExtended index size values) = true
is_extension _ = false

abbrev extends : Option RealmChange → Bool
extends None = false
extends (Some change) = is_extension change.update

-- a realm is made, or its measurements are extended
abbrev pub touches_rem : Change → Bool
touches_rem (RealmMade rd root width level vmid algo) = true
touches_rem (RecordsChanged realm rec) = extends realm
touches_rem (EntriesChanged rd level entries page realm rec) = extends realm
touches_rem _ = false

-- an update but an extension leaves the measurements
updated-rems : (update : RealmUpdate) (realm : RealmRecord) → is_extension update ≡ false → (realm_updated update realm).rems ≡ realm.rems
unfolding realm_updated
updated-rems (realm_update.MeasurementExtended index size values) realm other = both_ways refl other
updated-rems _ realm other = refl

-- a realm is put in: at another address, or with that value
put-realm : (register : Register) (value : Option Measurement) (realms : ℕ → Option RealmRecord) (rd : ℕ) (new : RealmRecord)
    → ((register.rd == rd) ≡ false → IsKnownRealm register value realms) → (register.rd ≡ rd → value ≡ Some (rem_at register new))
    → IsKnownRealm register value (λ g. if g == rd then Some new else realms g)
put-realm register value realms rd new elsewhere here realm is =
    elim (chosen (register.rd == rd) (Some new) (realms register.rd) (Some realm) is) [
      | inl p ↦ (let same : new ≡ realm = (let both : Some new ≡ Some realm = p.1 in cc) in rw (← same) (here (eqb-true register.rd rd p.0)))
      | inr p ↦ elsewhere p.0 realm p.1
    ]

module _ (register : Register) (value : Option Measurement) where
  -- a realm's record is updated, and no measurement extended
  updated-realm : (s t : State) (rd : ℕ) (update : RealmUpdate) → IsSound s → IsTrue (has_tag s rd Rd) → t.realm ≡ s.realm
      → is_extension update ≡ false → IsKnownRealm register value s.realm
      → IsKnownRealm register value (λ g. if g == rd then Some (realm_updated update (realm_at t rd)) else t.realm g)
  updated-realm s t rd update sound tag same other known =
      let is = realm_there s rd sound tag in
      let there : t.realm rd ≡ Some (realm_at s rd) = ap (λ (f : ℕ → Option RealmRecord). f rd) same ∙ is in
      put-realm register value t.realm rd (realm_updated update (realm_at t rd)) (λ _. rw same known)
      (λ here. known (realm_at s rd) (rw here is)
      ∙ ap (λ (rems : List Measurement). Some (slice_index_or rems (register.index - 1) (Sha256 [])))
      (sym (updated-rems update (realm_at t rd) other ∙ ap (λ (r : RealmRecord). r.rems) (realm_at-is t rd (realm_at s rd) there))))

  -- or none is
  realm_change-realm : (s t : State) (change : Option RealmChange) → IsSound s → CanChangeRealm s change → t.realm ≡ s.realm → extends change ≡ false
      → IsKnownRealm register value s.realm → IsKnownRealm register value (with_realm_change t change).realm
  realm_change-realm s t None sound can same other known = rw same known
  realm_change-realm s t (Some change) sound can same other known = updated-realm s t change.rd change.update sound can.0 same other known

  -- with a page's tag before it, and a REC's record behind it
  with_records-realm : (s : State) (page : Option TagChange) (realm : Option RealmChange) (rec : Option RecChange) → IsSound s
      → CanChangeRealm s realm → extends realm ≡ false
      → IsKnownRealm register value s.realm → IsKnownRealm register value (with_records s page realm rec).realm
  with_records-realm s page realm rec sound can other known =
      rw ((rec_change-rest (with_realm_change (with_tag_change s page) realm) rec).3)
      (realm_change-realm s (with_tag_change s page) realm sound can (tag_change-rest s page).2 other known)

  -- a change that makes no realm and extends no measurement leaves what is known of it
  pub changed-realm : (s : State) (change : Change) → IsSound s → CanApply s change → touches_rem change ≡ false
      → IsKnownRealm register value s.realm → IsKnownRealm register value (changed s change).realm
  unfolding changed
  changed-realm s (RealmMade rd root width level vmid algo) sound can other known = both_ways refl other
  changed-realm s (RealmDestroyed rd root) sound can other known = λ realm is.
      known realm (left_of (register.rd == rd) (s.realm register.rd) realm is).1
  changed-realm s (RecMade rd rec mpidr flags aux0 aux1) sound can other known =
      updated-realm s s rd (realm_update.RecCounted mpidr flags) sound can.rd_tag refl refl known
  changed-realm s (RecordsChanged realm rec) sound can other known = with_records-realm s None realm rec sound can.0 other known
  changed-realm s (EntriesChanged rd level (Replaced number entry) page realm rec) sound can other known =
      with_records-realm s page realm rec sound can.2 other known
  changed-realm s (EntriesChanged rd level (RipasSet first last ripas) page realm rec) sound can other known =
      with_records-realm s page realm rec sound can.2 other known
  changed-realm s _ sound can other known = known

-- ---- a realm that is made

-- by whether it is the register's
made-by : (register : Register) (value : Option Measurement) (realms : ℕ → Option RealmRecord) (rd root width level vmid algo : ℕ) (b : Bool)
    → IsRegister register → IsKnownRealm register value realms → (rd == register.rd) ≡ b
    → IsKnownRealm register (value_after (if b then Some (Begins algo) else None) value)
    (λ g. if g == rd then Some (new_realm root width level vmid algo) else realms g)
made-by register value realms rd root width level vmid algo true is_register known same =
    let low = is_register.0 in
    let high = is_register.1 in
    put-realm register (Some (rem_start algo)) realms rd (new_realm root width level vmid algo)
    (λ apart. both_ways (eq-eqb register.rd rd (sym (eqb-true rd register.rd same))) apart)
    (λ _. ap Some (sym (get_or-replicate 4 (register.index - 1) (rem_start algo) (Sha256 []) (omega (arith, low, high)))))
made-by register value realms rd root width level vmid algo false is_register known apart =
    put-realm register value realms rd (new_realm root width level vmid algo) (λ _. known)
    (λ here. both_ways (eq-eqb rd register.rd (sym here)) apart)

-- its register begins with the first value
pub made-realm : (register : Register) (value : Option Measurement) (realms : ℕ → Option RealmRecord) (rd root width level vmid algo : ℕ)
    → IsRegister register → IsKnownRealm register value realms
    → IsKnownRealm register (value_after (if rd == register.rd then Some (Begins algo) else None) value)
    (λ g. if g == rd then Some (new_realm root width level vmid algo) else realms g)
made-realm register value realms rd root width level vmid algo is_register known =
    made-by register value realms rd root width level vmid algo (rd == register.rd) is_register known refl

-- ---- an extension

module _ (s : State) (register : Register) (value : Option Measurement) (rd index size : ℕ) (values : List ℕ)
    (sound : IsSound s) (is_register : IsRegister register) (some : 1 ≤ index) (tag : IsTrue (has_tag s rd Rd))
    (known : IsKnownRealm register value s.realm) where
  -- the bytes that are measured
  abbrev extension : List ℕ
  extension = take size (words_bytes values)

  -- the register with one of that index extended
  abbrev rem_then : ℕ → Measurement
  rem_then k = slice_index_or (slice_set (realm_at s rd).rems (k - 1) (rem_extended (measurement_at (realm_at s rd) k) extension))
      (register.index - 1) (Sha256 [])

  -- where it is the register itself
  extended-here : index ≡ register.index → rem_then index ≡ rem_extended (rem_at register (realm_at s rd)) extension
  extended-here here =
      let low = is_register.0 in
      let high = is_register.1 in
      let four : length (realm_at s rd).rems ≡ 4 = sound.realms.measured rd (realm_at s rd) (realm_there s rd sound tag) in
      ap rem_then here ∙ get_or-set_same (realm_at s rd).rems (register.index - 1) _ (Sha256 []) (omega (arith, low, high, four))
      ∙ ap (λ (m : Measurement). rem_extended m extension) (measurement_at-rem register (realm_at s rd) is_register)

  -- where it is another
  extended-elsewhere : (index == register.index) ≡ false → rem_then index ≡ rem_at register (realm_at s rd)
  extended-elsewhere elsewhere =
      let low = is_register.0 in
      let apart : register.index ≡ index → ⊥ = λ at. both_ways (eq-eqb index register.index (sym at)) elsewhere in
      get_or-set_other (realm_at s rd).rems (index - 1) (register.index - 1) _ (Sha256 []) (λ same. apart (omega (arith, same, low, some)))

  -- by whether it is the register's index, and its realm
  extended-by : (a b : Bool) → (index == register.index) ≡ a → (rd == register.rd) ≡ b
      → IsKnownRealm register (value_after (if a && b then Some (Extends size values) else None) value)
      (λ g. if g == rd then Some (realm_updated (realm_update.MeasurementExtended index size values) (realm_at s rd)) else s.realm g)
  unfolding realm_updated
  extended-by true true here same =
      let at : register.rd ≡ rd = sym (eqb-true rd register.rd same) in
      put-realm register (option_map (λ (m : Measurement). rem_extended m extension) value) s.realm rd _
      (λ apart. both_ways (eq-eqb register.rd rd at) apart)
      (λ _. ap (option_map (λ (m : Measurement). rem_extended m extension)) (known (realm_at s rd) (rw at (realm_there s rd sound tag)))
      ∙ ap Some (sym (extended-here (eqb-true index register.index here))))
  extended-by true false here apart =
      put-realm register value s.realm rd _ (λ _. known) (λ at. both_ways (eq-eqb rd register.rd (sym at)) apart)
  extended-by false b elsewhere _ =
      put-realm register value s.realm rd _ (λ _. known)
      (λ at. known (realm_at s rd) (rw at (realm_there s rd sound tag)) ∙ ap Some (sym (extended-elsewhere elsewhere)))

  -- an extension of the register extends its value, and one of another leaves it
  pub extended-realm : IsKnownRealm register
      (value_after (if index == register.index && rd == register.rd then Some (Extends size values) else None) value)
      (λ g. if g == rd then Some (realm_updated (realm_update.MeasurementExtended index size values) (realm_at s rd)) else s.realm g)
  extended-realm = extended-by (index == register.index) (rd == register.rd) refl refl
