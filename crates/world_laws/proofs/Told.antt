-- What a reply tells of a state fits into words of 64 bits: what every run keeps of the numbers that a state has.
use Rattle.std.proofs.Common.{ℕ, zero, suc, ◌/◌, ◌<◌, ◌^◌, Bool, true, false, nat_lt, ◌==◌, if◌then◌else◌, List, [], ◌∷◌, drop, replicate, Option, Some, None, unwrap_or, option_map, slice_index, slice_index_or, slice_set, arith, w32, w64}
use Rattle.std.specs.Prelude.{⊤}
use Rattle.std.specs.Int.{to_be_bytes, from_le_bytes}
use Rattle.std.specs.List.{AllByRecursion}
use Rattle.sha2.specs.Sha256.{sha256, digest_bytes}
use Rattle.sha2.specs.Sha512 as wide
use Rattle.sha2.specs.Sha512.{sha512}
use Rattle.rmm_spec.specs.declared.change.Change.{Change}
use Rattle.rmm_spec.specs.declared.change.Change.TheVariants.{Unchanged, Retagged, RealmMade, RealmDestroyed, RecMade, RecDestroyed, RecordsChanged, TableMade, TableDestroyed, EntriesChanged}
use Rattle.rmm_spec.specs.declared.change.EntryChange.{EntryChange}
use Rattle.rmm_spec.specs.declared.change.EntryChange.TheVariants.{Replaced, RipasSet}
use Rattle.rmm_spec.specs.declared.change.RealmChange.{RealmChange}
use Rattle.rmm_spec.specs.declared.change.RealmUpdate.{RealmUpdate}
use Rattle.rmm_spec.specs.declared.change.RealmUpdate.TheVariants as realm_update
use Rattle.rmm_spec.specs.declared.change.RecChange.{RecChange}
use Rattle.rmm_spec.specs.declared.change.RecUpdate.{RecUpdate}
use Rattle.rmm_spec.specs.declared.change.RecUpdate.TheVariants as rec_update
use Rattle.rmm_spec.specs.declared.change.TagChange.{TagChange}
use Rattle.rmm_spec.specs.declared.entry.Entry.{Entry}
use Rattle.rmm_spec.specs.declared.entry.Entry.TheVariants.{Unassigned, UnassignedNs}
use Rattle.rmm_spec.specs.declared.tag.Ripas.{Ripas}
use Rattle.rmm_spec.specs.declared.tag.Ripas.TheVariants.{Empty}
use Rattle.rmm_spec.specs.declared.tag.Tag.{Tag}
use Rattle.rmm_spec.specs.Function.{number_of}
use Rattle.rmm_spec.specs.HistoryText.{Config}
use Rattle.rmm_spec.specs.CommandText.{AreWords}
use Rattle.rmm_spec.specs.declared.measurement.Measurement.{Measurement}
use Rattle.rmm_spec.specs.declared.measurement.Measurement.TheVariants.{Sha256, Sha512}
use Rattle.rmm_spec.specs.Measure.{extended, rim_begin, rim_extended, rem_start, rem_extended, first_words, measurement_words}
use Rattle.rmm_spec.specs.State.{State, RealmRecord, RecRecord, Request, Pending, Psci, RipasChange, HostCall, opening}
use Rattle.rmm_spec.specs.Update.{with_tag, with_realm, without_realm, with_root, with_rec, without_rec, with_table, without_table, is_same_entry, is_same_table, entry_with_ripas}
use Rattle.rmm_spec.specs.Lookup.{realm_at, rec_at, request_of, no_realm, no_rec, no_request}
use Rattle.rmm_spec.specs.Walk.{entry_address, is_table, linked_entry, entry_at}
use Rattle.rmm_spec.specs.Change.{changed, new_realm, new_rec, measurement_at, realm_updated, rec_updated, with_realm_change, with_rec_change, with_tag_change, with_entry_change}
use Rattle.spec_lemmas.proofs.Texts.{AllByRecursion-append}

-- ---- lists and options

-- what is there, if anything is, has the property
abbrev pub EachIn : {A : Type 0} → (A → Type 0) → Option A → Type 0
EachIn P None = ⊤
EachIn P (Some x) = P x

-- one of two values has what both have
pub either : {A : Type 0} (P : A → Type 0) (b : Bool) (x y : A) → P x → P y → P (if b then x else y)
either P true x y one other = one
either P false x y one other = other

-- so has what is there, or what is read where nothing is
unwrapped : {A : Type 0} (P : A → Type 0) (found : Option A) (x : A) → EachIn P found → P x → P (unwrap_or found x)
unwrapped P None x there default = default
unwrapped P (Some y) x there default = there

-- what holds of each element holds of what a list has at a place, and of lists made of it
pub slice_index_or-each : {A : Type 0} (P : A → Type 0) (xs : List A) (i : ℕ) (x : A) → AllByRecursion P xs → P x → P (slice_index_or xs i x)
slice_index_or-each P [] i x each default = default
slice_index_or-each P (y ∷ ys) zero x each default = each.0
slice_index_or-each P (y ∷ ys) (suc i) x each default = slice_index_or-each P ys i x each.1 default

slice_set-each : {A : Type 0} (P : A → Type 0) (xs : List A) (i : ℕ) (x : A) → AllByRecursion P xs → P x → AllByRecursion P (slice_set xs i x)
slice_set-each P [] i x each new = tt
slice_set-each P (y ∷ ys) zero x each new = (new, each.1)
slice_set-each P (y ∷ ys) (suc i) x each new = (each.0, slice_set-each P ys i x each.1 new)

replicate-each : {A : Type 0} (P : A → Type 0) (n : ℕ) (x : A) → P x → AllByRecursion P (replicate n x)
replicate-each P zero x here = tt
replicate-each P (suc n) x here = (here, replicate-each P n x here)

drop-each : {A : Type 0} (P : A → Type 0) (n : ℕ) (xs : List A) → AllByRecursion P xs → AllByRecursion P (drop n xs)
drop-each P zero xs each = each
drop-each P (suc n) [] each = tt
drop-each P (suc n) (x ∷ xs) each = drop-each P n xs each.1

-- ---- measurements

-- numbers that 8 bits hold
abbrev pub AreBytes : List ℕ → Type 0
AreBytes bytes = AllByRecursion (λ b. b < 256) bytes

-- what is written of a hash value is bytes
AreBytes-digest_bytes : (hash : List ℕ) (n : ℕ) → AreBytes (digest_bytes hash n)
unfolding digest_bytes
AreBytes-digest_bytes hash zero = tt
AreBytes-digest_bytes hash (suc n) =
    AllByRecursion-append (λ b. b < 256) (digest_bytes hash n) (to_be_bytes w32 (slice_index hash n)) (AreBytes-digest_bytes hash n)
    (omega arith, (omega arith, (omega arith, (omega arith, tt))))

AreBytes-wide_digest_bytes : (hash : List ℕ) (n : ℕ) → AreBytes (wide.digest_bytes hash n)
unfolding wide.digest_bytes
AreBytes-wide_digest_bytes hash zero = tt
AreBytes-wide_digest_bytes hash (suc n) =
    AllByRecursion-append (λ b. b < 256) (wide.digest_bytes hash n) (to_be_bytes w64 (slice_index hash n)) (AreBytes-wide_digest_bytes hash n)
    (omega arith, (omega arith, (omega arith, (omega arith, (omega arith, (omega arith, (omega arith, (omega arith, tt))))))))

-- a hash is bytes
AreBytes-sha256 : (message : List ℕ) → AreBytes (sha256 message)
unfolding sha256
AreBytes-sha256 message = AreBytes-digest_bytes _ 8

AreBytes-sha512 : (message : List ℕ) → AreBytes (sha512 message)
unfolding sha512
AreBytes-sha512 message = AreBytes-wide_digest_bytes _ 8

-- eight bytes are a word
from_le_bytes-word : (bytes : List ℕ) → AreBytes bytes → from_le_bytes w64 bytes < 2 ^ 64
from_le_bytes-word bytes are =
    let at : (i : ℕ) → slice_index bytes i < 256 = λ i. slice_index_or-each (λ b. b < 256) bytes i 0 are (omega arith) in
    omega (arith, at 0, at 1, at 2, at 3, at 4, at 5, at 6, at 7)

-- words read from bytes are words
AreWords-first_words : (n : ℕ) (bytes : List ℕ) → AreBytes bytes → AreWords (first_words n bytes)
unfolding first_words
AreWords-first_words zero bytes are = tt
AreWords-first_words (suc n) bytes are =
    (from_le_bytes-word bytes are, AreWords-first_words n (drop 8 bytes) (drop-each (λ b. b < 256) 8 bytes are))

-- ---- what fits

-- an address that an entry names is a word
abbrev pub EntryFits : Entry → Type 0
EntryFits entry = entry_address entry < 2 ^ 64

abbrev pub RequestFits : Request → Type 0
RequestFits request = (request.base < 2 ^ 64) × (request.top < 2 ^ 64)

abbrev pub PendingFits : Pending → Type 0
PendingFits (Psci function) = function < 2 ^ 64
PendingFits RipasChange = ⊤
PendingFits (HostCall imm) = imm < 2 ^ 64

abbrev pub RecFits : RecRecord → Type 0
RecFits rec = EachIn RequestFits rec.request × EachIn PendingFits rec.pending

-- a measurement is of bytes
abbrev pub AreMeasured : Measurement → Type 0
AreMeasured (Sha256 bytes) = AreBytes bytes
AreMeasured (Sha512 bytes) = AreBytes bytes

pub record RealmFits (realm : RealmRecord) : Type 0 where
  pub width : realm.width < 2 ^ 64
  pub algo : realm.algo < 2 ^ 64
  pub rim : AreMeasured realm.rim
  pub rems : AllByRecursion AreMeasured realm.rems

-- each number of the state that a reply can tell fits into a word
pub record StateFits (s : State) : Type 0 where
  pub tables : (rd level number : ℕ) → EachIn (λ g. g < 2 ^ 64) (s.table rd level number)
  pub leaves : (rd level number : ℕ) → EachIn EntryFits (s.leaf rd level number)
  pub recs : (g : ℕ) → EachIn RecFits (s.rec g)
  pub realms : (g : ℕ) → EachIn RealmFits (s.realm g)

abbrev pub RecUpdateFits : RecUpdate → Type 0
RecUpdateFits (rec_update.RipasRequested base top ripas) = (base < 2 ^ 64) × (top < 2 ^ 64)
RecUpdateFits (rec_update.HostCalled imm) = imm < 2 ^ 64
RecUpdateFits (rec_update.RequestMoved base) = base < 2 ^ 64
RecUpdateFits _ = ⊤

abbrev pub EntryChangeFits : EntryChange → Type 0
EntryChangeFits (Replaced number entry) = EntryFits entry
EntryChangeFits (RipasSet first last ripas) = ⊤

-- what a change puts into a state fits
abbrev pub ChangeFits : Change → Type 0
ChangeFits (RealmMade rd root width level vmid algo) = (root < 2 ^ 64) × (width < 2 ^ 64) × (algo < 2 ^ 64)
ChangeFits (RecordsChanged realm rec) = EachIn (λ (c : RecChange). RecUpdateFits c.update) rec
ChangeFits (TableMade rd level number rtt entry) = (rtt < 2 ^ 64) × EntryFits entry
ChangeFits (TableDestroyed rd level number rtt entry) = EntryFits entry
ChangeFits (EntriesChanged rd level entries page realm rec) = EntryChangeFits entries × EachIn (λ (c : RecChange). RecUpdateFits c.update) rec
ChangeFits _ = ⊤

-- ---- what is read

-- where nothing is, what is read is zero
pub realm_at-fits : (s : State) (rd : ℕ) → StateFits s → RealmFits (realm_at s rd)
unfolding realm_at
realm_at-fits s rd fits =
    unwrapped RealmFits (s.realm rd) no_realm (fits.realms rd) (record { width = omega arith; algo = omega arith; rim = tt; rems = tt })

pub rec_at-fits : (s : State) (g : ℕ) → StateFits s → RecFits (rec_at s g)
unfolding rec_at
rec_at-fits s g fits = unwrapped RecFits (s.rec g) no_rec (fits.recs g) (tt, tt)

pub request_of-fits : (rec : RecRecord) → RecFits rec → RequestFits (request_of rec)
request_of-fits rec fits = unwrapped RequestFits rec.request no_request fits.0 (omega arith, omega arith)

linked_entry-fits : (link : Option ℕ) (leaf : Option Entry)
    → EachIn (λ g. g < 2 ^ 64) link → EachIn EntryFits leaf → EntryFits (linked_entry link leaf)
linked_entry-fits (Some granule) leaf below here = below
linked_entry-fits None (Some leaf) below here = either EntryFits (is_table leaf) (Unassigned Empty) leaf (omega arith) here
linked_entry-fits None None below here = omega arith

pub entry_at-fits : (s : State) (rd level number : ℕ) → StateFits s → EntryFits (entry_at s rd level number)
unfolding entry_at
entry_at-fits s rd level number fits =
    linked_entry-fits _ (s.leaf rd level number)
    (either (EachIn (λ g. g < 2 ^ 64)) (nat_lt level 3) _ None (fits.tables rd _ number) tt) (fits.leaves rd level number)

measurement_at-fits : (realm : RealmRecord) (index : ℕ) → RealmFits realm → AreMeasured (measurement_at realm index)
measurement_at-fits realm index fits =
    either AreMeasured (index == 0) realm.rim _ fits.rim (slice_index_or-each AreMeasured realm.rems _ (Sha256 []) fits.rems tt)

AreWords-measured : (measurement : Measurement) → AreMeasured measurement → AreWords (measurement_words measurement)
unfolding measurement_words
AreWords-measured (Sha256 bytes) are = AreWords-first_words 4 bytes are
AreWords-measured (Sha512 bytes) are = AreWords-first_words 8 bytes are

pub AreWords-measurement : (realm : RealmRecord) (index : ℕ) → RealmFits realm → AreWords (measurement_words (measurement_at realm index))
AreWords-measurement realm index fits = AreWords-measured _ (measurement_at-fits realm index fits)

-- ---- records that change

-- a realm with another RIM
RealmFits-rim : (realm : RealmRecord) (rim : Measurement) → AreMeasured rim → RealmFits realm → RealmFits (record realm { rim = rim })
RealmFits-rim realm rim bytes fits = record { width = fits.width; algo = fits.algo; rim = bytes; rems = fits.rems }

-- what a measurement becomes is of bytes, whatever it was
AreMeasured-extended : (measurement : Measurement) (bytes : List ℕ) → AreMeasured (extended measurement bytes)
AreMeasured-extended (Sha256 old) bytes = AreBytes-sha256 _
AreMeasured-extended (Sha512 old) bytes = AreBytes-sha512 _

AreMeasured-rim_extended : (rim : Measurement) (words : List ℕ) → AreMeasured (rim_extended rim words)
unfolding rim_extended
AreMeasured-rim_extended rim words = AreMeasured-extended rim _

AreMeasured-rem_extended : (rem : Measurement) (bytes : List ℕ) → AreMeasured (rem_extended rem bytes)
unfolding rem_extended
AreMeasured-rem_extended rem bytes = AreMeasured-extended rem bytes

AreMeasured-rim_begin : (width level algo : ℕ) → AreMeasured (rim_begin width level algo)
unfolding rim_begin
AreMeasured-rim_begin width level algo = either AreMeasured (algo == 1) (Sha512 _) (Sha256 _) (AreBytes-sha512 _) (AreBytes-sha256 _)

AreMeasured-rem_start : (algo : ℕ) → AreMeasured (rem_start algo)
unfolding rem_start
AreMeasured-rem_start algo =
    either AreMeasured (algo == 1) (Sha512 (replicate 64 0)) (Sha256 (replicate 32 0))
    (replicate-each (λ b. b < 256) 64 0 (omega arith)) (replicate-each (λ b. b < 256) 32 0 (omega arith))

-- each update of a record keeps it fitting
RealmFits-updated : (update : RealmUpdate) (realm : RealmRecord) → RealmFits realm → RealmFits (realm_updated update realm)
unfolding realm_updated
RealmFits-updated realm_update.Activated realm fits = record { width = fits.width; algo = fits.algo; rim = fits.rim; rems = fits.rems }
RealmFits-updated realm_update.TurnedOff realm fits = record { width = fits.width; algo = fits.algo; rim = fits.rim; rems = fits.rems }
RealmFits-updated (realm_update.RecCounted mpidr flags) realm fits =
    record { width = fits.width; algo = fits.algo; rim = AreMeasured-rim_extended realm.rim _; rems = fits.rems }
RealmFits-updated (realm_update.PageMeasured ipa flags digest) realm fits = RealmFits-rim realm _ (AreMeasured-rim_extended realm.rim _) fits
RealmFits-updated (realm_update.StretchMeasured base top) realm fits = RealmFits-rim realm _ (AreMeasured-rim_extended realm.rim _) fits
RealmFits-updated (realm_update.MeasurementExtended index size values) realm fits = record {
  width = fits.width;
  algo = fits.algo;
  rim = fits.rim;
  rems = slice_set-each AreMeasured realm.rems _ _ fits.rems (AreMeasured-rem_extended (measurement_at realm index) _);
}

RealmFits-new : (root width level vmid algo : ℕ) → width < 2 ^ 64 → algo < 2 ^ 64 → RealmFits (new_realm root width level vmid algo)
RealmFits-new root width level vmid algo is_width is_algo = record {
  width = is_width;
  algo = is_algo;
  rim = AreMeasured-rim_begin width level algo;
  rems = replicate-each AreMeasured 4 (rem_start algo) (AreMeasured-rem_start algo);
}

RecFits-updated : (update : RecUpdate) (rec : RecRecord) → RecUpdateFits update → RecFits rec → RecFits (rec_updated update rec)
unfolding rec_updated number_of
RecFits-updated (rec_update.Entered cpu) rec new fits = (tt, fits.1)
RecFits-updated rec_update.Exited rec new fits = (fits.0, tt)
RecFits-updated (rec_update.RipasRequested base top ripas) rec new fits = (new, tt)
RecFits-updated (rec_update.HostCalled imm) rec new fits = (fits.0, new)
RecFits-updated (rec_update.RequestMoved base) rec new fits = ((new, (request_of-fits rec fits).1), fits.1)
RecFits-updated _ rec new fits = (fits.0, omega arith)

-- ---- states that change

-- each way in which a state changes keeps it fitting, where what is put in fits
StateFits-tag : (s : State) (address : ℕ) (tag : Tag) → StateFits s → StateFits (with_tag s address tag)
StateFits-tag s address tag fits = record { tables = fits.tables; leaves = fits.leaves; recs = fits.recs; realms = fits.realms }

StateFits-realm : (s : State) (rd : ℕ) (realm : RealmRecord) → RealmFits realm → StateFits s → StateFits (with_realm s rd realm)
StateFits-realm s rd realm new fits = record {
  tables = fits.tables;
  leaves = fits.leaves;
  recs = fits.recs;
  realms = λ g. either (EachIn RealmFits) (g == rd) (Some realm) (s.realm g) new (fits.realms g);
}

StateFits-no_realm : (s : State) (rd : ℕ) → StateFits s → StateFits (without_realm s rd)
StateFits-no_realm s rd fits = record {
  tables = λ other level number. either (EachIn (λ g. g < 2 ^ 64)) (other == rd) None _ tt (fits.tables other level number);
  leaves = λ other level number. either (EachIn EntryFits) (other == rd) None _ tt (fits.leaves other level number);
  recs = fits.recs;
  realms = λ g. either (EachIn RealmFits) (g == rd) None (s.realm g) tt (fits.realms g);
}

StateFits-rec : (s : State) (address : ℕ) (rec : RecRecord) → RecFits rec → StateFits s → StateFits (with_rec s address rec)
StateFits-rec s address rec new fits = record {
  tables = fits.tables;
  leaves = fits.leaves;
  recs = λ g. either (EachIn RecFits) (g == address) (Some rec) (s.rec g) new (fits.recs g);
  realms = fits.realms;
}

StateFits-no_rec : (s : State) (address : ℕ) → StateFits s → StateFits (without_rec s address)
StateFits-no_rec s address fits = record {
  tables = fits.tables;
  leaves = fits.leaves;
  recs = λ g. either (EachIn RecFits) (g == address) None (s.rec g) tt (fits.recs g);
  realms = fits.realms;
}

StateFits-root : (s : State) (rd level root : ℕ) → root < 2 ^ 64 → StateFits s → StateFits (with_root s rd level root)
StateFits-root s rd level root new fits = record {
  tables = λ other l n. either (EachIn (λ g. g < 2 ^ 64)) (is_same_table rd level 0 other l n) (Some root) _ new (fits.tables other l n);
  leaves = λ other l n. either (EachIn EntryFits) (is_same_table rd level 0 other l (n / 512)) (Some _) _
      (either EntryFits (nat_lt n 256) (Unassigned Empty) UnassignedNs (omega arith) (omega arith)) (fits.leaves other l n);
  recs = fits.recs;
  realms = fits.realms;
}

StateFits-table : (s : State) (rd level number granule : ℕ) (entry : Entry) → granule < 2 ^ 64 → EntryFits entry → StateFits s
    → StateFits (with_table s rd level number granule entry)
StateFits-table s rd level number granule entry new copied fits = record {
  tables = λ other l n. either (EachIn (λ g. g < 2 ^ 64)) (is_same_table rd level number other l n) (Some granule) _ new (fits.tables other l n);
  leaves = λ other l n. either (EachIn EntryFits) (is_same_table rd level number other l (n / 512)) (Some entry) _ copied
      (either (EachIn EntryFits) (is_same_entry rd level number other _ n) None _ tt (fits.leaves other l n));
  recs = fits.recs;
  realms = fits.realms;
}

StateFits-no_table : (s : State) (rd level number : ℕ) (entry : Entry) → EntryFits entry → StateFits s
    → StateFits (without_table s rd level number entry)
StateFits-no_table s rd level number entry new fits = record {
  tables = λ other l n. either (EachIn (λ g. g < 2 ^ 64)) (is_same_table rd level number other l n) None _ tt (fits.tables other l n);
  leaves = λ other l n. either (EachIn EntryFits) (is_same_table rd level number other l (n / 512)) None _ tt
      (either (EachIn EntryFits) (is_same_entry rd level number other _ n) (Some entry) _ new (fits.leaves other l n));
  recs = fits.recs;
  realms = fits.realms;
}

-- another RIPAS leaves the address
ripas-fits : (ripas : Ripas) (leaf : Option Entry) → EachIn EntryFits leaf → EachIn EntryFits (option_map (entry_with_ripas ripas) leaf)
ripas-fits ripas None fits = tt
ripas-fits ripas (Some (Unassigned old)) fits = fits
ripas-fits ripas _ fits = fits

StateFits-entry_change : (s : State) (rd level : ℕ) (change : EntryChange) → EntryChangeFits change → StateFits s
    → StateFits (with_entry_change s rd level change)
StateFits-entry_change s rd level (Replaced number entry) new fits = record {
  tables = fits.tables;
  leaves = λ other l n. either (EachIn EntryFits) (is_same_entry rd level number other l n) (Some entry) _ new (fits.leaves other l n);
  recs = fits.recs;
  realms = fits.realms;
}
StateFits-entry_change s rd level (RipasSet first last ripas) new fits = record {
  tables = fits.tables;
  leaves = λ other l n. either (EachIn EntryFits) _ _ (s.leaf other l n)
      (ripas-fits ripas (s.leaf other l n) (fits.leaves other l n)) (fits.leaves other l n);
  recs = fits.recs;
  realms = fits.realms;
}

StateFits-tag_change : (s : State) (change : Option TagChange) → StateFits s → StateFits (with_tag_change s change)
StateFits-tag_change s None fits = fits
StateFits-tag_change s (Some change) fits = StateFits-tag s change.granule change.tag fits

StateFits-realm_change : (s : State) (change : Option RealmChange) → StateFits s → StateFits (with_realm_change s change)
StateFits-realm_change s None fits = fits
StateFits-realm_change s (Some change) fits =
    StateFits-realm s change.rd _ (RealmFits-updated change.update (realm_at s change.rd) (realm_at-fits s change.rd fits)) fits

StateFits-rec_change : (s : State) (change : Option RecChange) → EachIn (λ (c : RecChange). RecUpdateFits c.update) change → StateFits s
    → StateFits (with_rec_change s change)
StateFits-rec_change s None new fits = fits
StateFits-rec_change s (Some change) new fits =
    StateFits-rec s change.rec _ (RecFits-updated change.update (rec_at s change.rec) new (rec_at-fits s change.rec fits)) fits

-- a change that fits keeps a state that does
pub StateFits-changed : (s : State) (change : Change) → ChangeFits change → StateFits s → StateFits (changed s change)
unfolding changed
StateFits-changed s Unchanged new fits = fits
StateFits-changed s (Retagged change) new fits = StateFits-tag s change.granule change.tag fits
StateFits-changed s (RealmMade rd root width level vmid algo) new fits =
    StateFits-root _ rd level root new.0
    (StateFits-realm _ rd (new_realm root width level vmid algo) (RealmFits-new root width level vmid algo new.1 new.2)
    (StateFits-tag _ root _ (StateFits-tag s rd _ fits)))
StateFits-changed s (RealmDestroyed rd root) new fits = StateFits-no_realm _ rd (StateFits-tag _ root _ (StateFits-tag s rd _ fits))
StateFits-changed s (RecMade rd rec mpidr flags aux0 aux1) new fits =
    StateFits-rec _ rec (new_rec rd mpidr flags aux0 aux1) (tt, tt)
    (StateFits-realm _ rd _ (RealmFits-updated (realm_update.RecCounted mpidr flags) (realm_at s rd) (realm_at-fits s rd fits))
    (StateFits-tag _ aux1 _ (StateFits-tag _ aux0 _ (StateFits-tag s rec _ fits))))
StateFits-changed s (RecDestroyed rec aux0 aux1) new fits =
    StateFits-no_rec _ rec (StateFits-tag _ aux1 _ (StateFits-tag _ aux0 _ (StateFits-tag s rec _ fits)))
StateFits-changed s (RecordsChanged realm rec) new fits = StateFits-rec_change _ rec new (StateFits-realm_change s realm fits)
StateFits-changed s (TableMade rd level number rtt entry) new fits =
    StateFits-table _ rd level number rtt entry new.0 new.1 (StateFits-tag s rtt _ fits)
StateFits-changed s (TableDestroyed rd level number rtt entry) new fits =
    StateFits-no_table _ rd level number entry new (StateFits-tag s rtt _ fits)
StateFits-changed s (EntriesChanged rd level entries page realm rec) new fits =
    StateFits-entry_change _ rd level entries new.0
    (StateFits-rec_change _ rec new.1 (StateFits-realm_change _ realm (StateFits-tag_change s page fits)))

-- nothing is there at the start
pub StateFits-opening : (config : Config) → StateFits (opening config)
unfolding opening
StateFits-opening config = record {
  tables = λ rd level number. tt;
  leaves = λ rd level number. tt;
  recs = λ g. tt;
  realms = λ g. tt;
}
