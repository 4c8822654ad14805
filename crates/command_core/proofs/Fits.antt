-- A change that a whole can take is one that can be made of what is held, where its new cells are held.
use Rattle.command_core.proofs.Common.{◌&&◌, ◌*◌, ◌+◌, ◌<◌, ◌==◌, ◌||◌, ◌∙◌, ◌≡◌, ◌≤◌, Change, Config, HeldCell, Hold, IsTrue, List, None, Option, Rd, RealmRecord, Rec, RecRecord, Some, State, Unchanged, and_from, and_parts, ap, arith, can_make, eq-eqb, false≢true, flat_state, has_tag, hold_of, inl, inr, is_granule, is_held, is_some, length, nat_le, nat_tests, realm_at, realm_in, rec_at, refl, subst, sym, table_placed, tag_number, tag_of, true, ℕ}
use Rattle.std.proofs.Common.{◌/◌, ◌^◌}
use Rattle.std.specs.Prelude.{nat_lt, not, ◌%◌}
use Rattle.std.proofs.lemmas.Bool.{le-leb, lt-ltb, ltb-true}
use Rattle.rmm_spec.specs.HistoryText.{granule_limit}
use Rattle.rmm_spec.specs.declared.version.Version.TheVariants.{Large}
use Rattle.rmm_spec.specs.declared.change.Change.TheVariants.{Retagged, RealmMade, RealmDestroyed, RecMade, RecDestroyed, RecordsChanged, TableMade, TableDestroyed, EntriesChanged}
use Rattle.rmm_spec.specs.declared.change.RealmUpdate.{RealmUpdate}
use Rattle.rmm_spec.specs.declared.change.RealmUpdate.TheVariants as realm_update
use Rattle.rmm_spec.specs.declared.change.RecUpdate.{RecUpdate}
use Rattle.rmm_spec.specs.declared.change.RecUpdate.TheVariants as rec_update
use Rattle.rmm_spec.specs.declared.change.TagChange.{TagChange}
use Rattle.rmm_spec.specs.declared.tag.Tag.{Tag}
use Rattle.rmm_spec.specs.declared.tag.Tag.TheVariants as tag
use Rattle.rmm_spec.specs.Applicable.{IsRealmUpdate, CanUpdateRec, CanRetag, CanChangeRealm, CanChangeRec, GoesWith, CanChangeEntries, CanApply}
use Rattle.rmm_spec.specs.Lookup.{is_hash}
use Rattle.rmm_spec.specs.Step.Terms.{is_space}
use Rattle.rmm_spec.specs.Cell.{Cell}
use Rattle.rmm_spec.specs.Shape.{Side, CpuPlace}
use Rattle.rmm_spec.specs.declared.change.EntryChange.{EntryChange}
use Rattle.rmm_spec.specs.declared.change.EntryChange.TheVariants.{Replaced, RipasSet}
use Rattle.rmm_spec.specs.declared.change.RealmChange.{RealmChange}
use Rattle.rmm_spec.specs.declared.change.RecChange.{RecChange}
use Rattle.rmm_spec.specs.Sound.{IsTableOf}
use Rattle.rmm_spec.specs.Walk.{table_size}
use Rattle.rmm_laws.proofs.Spaces.{space_cases}
use Rattle.rmm_laws.specs.Whole.{table_changed}
use Rattle.world_laws.specs.TableCells.{is_moved, holds_page, holds_realm, holds_rec, holds_change}
use Rattle.command_core.specs.Seen.{known_cell}
use Rattle.granule_cells.specs.Changes.{fits_entries, is_plain}
use Rattle.command_core.specs.Changed.{counts_in, is_realm_update, fits_realm, is_rec_update, fits_rec, fits_realm_change, fits_rec_change, fits_cells, can_count, CanMake, CanChange, fits_page}
use Rattle.command_core.proofs.Wholes.{Whole, state, same_at, few_recs, realm_at-cell, rec_at-cell}

-- ---- updates

realm_update-fits : (u : RealmUpdate) → IsRealmUpdate u → is_realm_update u ≡ true
realm_update-fits (realm_update.MeasurementExtended index size values) can =
    let low = can.0 in
    let high = can.1 in
    let small = can.2 in
    and_from (nat_le 1 index && nat_le index 4 && nat_le size 0x40) (length values == 8)
    (let tests : (nat_le 1 index && nat_le index 4 && nat_le size 0x40) ≡ true = grind (arith, nat_tests) in tests)
    (eq-eqb (length values) 8 can.3)
realm_update-fits (realm_update.PageMeasured ipa flags digest) can = eq-eqb (length digest) 4 can
realm_update-fits (realm_update.RecCounted mpidr flags) can = absurd can
realm_update-fits _ can = refl

rec_update-fits : (s : State) (rec : RecRecord) (u : RecUpdate) → CanUpdateRec s rec u → is_rec_update rec u ≡ true
rec_update-fits s rec (rec_update.RequestMoved base) can = can.1
rec_update-fits s rec _ can = refl

-- ---- records of a whole

tagged : (config : Config) (cells : ℕ → Cell) (g : ℕ) (t : Tag) → IsTrue (has_tag (flat_state config cells) g t)
    → (is_granule config.granules g ≡ true) × ((tag_number (tag_of (cells g)) == tag_number t) ≡ true)
unfolding has_tag flat_state
tagged config cells g t has = and_parts (is_granule config.granules g) (tag_number (tag_of (cells g)) == tag_number t) has

realm_there : (c : Cell) → (tag_number (tag_of c) == 2) ≡ true → (realm : RealmRecord) × (c ≡ Rd realm)
realm_there (Rd realm) is = (realm, refl)
realm_there _ is = absurd (false≢true is)

rec_there : (c : Cell) → (tag_number (tag_of c) == 3) ≡ true → (rec : RecRecord) × (c ≡ Rec rec)
rec_there (Rec rec) is = (rec, refl)
rec_there _ is = absurd (false≢true is)

counts : (config : Config) (cpu : ℕ) (hold : Hold) (w : Whole config cpu hold) (rd mpidr : ℕ) → IsTrue (has_tag (state config cpu hold w) rd tag.Rd)
    → IsTrue (mpidr == (realm_at (state config cpu hold w) rd).next_index && nat_lt mpidr 8) → IsTrue (is_held rd hold.cells)
    → counts_in mpidr (known_cell hold.cells rd) ≡ true
counts config cpu hold w rd mpidr has index held =
    let realm = realm_there (w.cells rd) (tagged config w.cells rd tag.Rd has).1 in
    subst (λ (c : Cell). counts_in mpidr c ≡ true) (sym realm.1 ∙ same_at config cpu hold w rd held)
    (subst (λ (r : RealmRecord). (mpidr == r.next_index && nat_lt mpidr 8) ≡ true) (realm_at-cell config w.cells rd realm.0 realm.1) index)

realm-fits : (config : Config) (cpu : ℕ) (hold : Hold) (w : Whole config cpu hold) (rd : ℕ) (u : RealmUpdate)
    → IsTrue (has_tag (state config cpu hold w) rd tag.Rd)
    → IsRealmUpdate u → IsTrue (is_held rd hold.cells) → fits_realm u (known_cell hold.cells rd) ≡ true
realm-fits config cpu hold w rd u has can held =
    let realm = realm_there (w.cells rd) (tagged config w.cells rd tag.Rd has).1 in
    subst (λ (c : Cell). fits_realm u c ≡ true) (sym realm.1 ∙ same_at config cpu hold w rd held) (realm_update-fits u can)

rec-fits : (config : Config) (cpu : ℕ) (hold : Hold) (w : Whole config cpu hold) (rec : ℕ) (u : RecUpdate)
    → IsTrue (has_tag (state config cpu hold w) rec tag.Rec)
    → CanUpdateRec (state config cpu hold w) (rec_at (state config cpu hold w) rec) u → IsTrue (is_held rec hold.cells)
    → fits_rec u (known_cell hold.cells rec) ≡ true
rec-fits config cpu hold w rec u has can held =
    let it = rec_there (w.cells rec) (tagged config w.cells rec tag.Rec has).1 in
    subst (λ (c : Cell). fits_rec u c ≡ true) (sym it.1 ∙ same_at config cpu hold w rec held)
    (subst (λ (r : RecRecord). is_rec_update r u ≡ true) (rec_at-cell config w.cells rec it.0 it.1)
    (rec_update-fits (state config cpu hold w) (rec_at (state config cpu hold w) rec) u can))

-- ---- changes

retag-fits : (s : State) (change : TagChange) → CanRetag s change → (is_plain change.tag && true) ≡ true
retag-fits s change (inl lent) = ap (λ (t : Tag). is_plain t && true) lent.1
retag-fits s change (inr back) = ap (λ (t : Tag). is_plain t && true) back.1

-- a table's first address is one of its realm's address space
small-base : (n width level : ℕ) → n < 2 ^ width → (width == 0x27 && level == 1 || width == 0x30 && level == 0) ≡ true → nat_lt n (2 ^ 64) ≡ true
small-base n width level within space = elim (space_cases width level space) [
  | inl small ↦ (let less : n < 2 ^ 0x27 = subst (λ x. n < 2 ^ x) small.0 within in grind (arith, nat_tests))
  | inr large ↦ (let less : n < 2 ^ 0x30 = subst (λ x. n < 2 ^ x) large.0 within in grind (arith, nat_tests))
]

base-fits : (config : Config) (cpu : ℕ) (hold : Hold) (w : Whole config cpu hold) (rd level number : ℕ)
    → IsTrue (has_tag (state config cpu hold w) rd tag.Rd)
    → IsTableOf (realm_at (state config cpu hold w) rd) level number → nat_lt (number * table_size level) (2 ^ 64) ≡ true
base-fits config cpu hold w rd level number has place =
    let realm = realm_there (w.cells rd) (tagged config w.cells rd tag.Rd has).1 in
    let same = realm_at-cell config w.cells rd realm.0 realm.1 in
    small-base (number * table_size level) realm.0.width realm.0.start_level
    (subst (λ (r : RealmRecord). number * table_size level < 2 ^ r.width) same place.inside)
    (w.shaped.realms.spaces rd realm.0 (ap realm_in realm.1))

page-fits : (s : State) (rd level : ℕ) (entries : EntryChange) (page : Option TagChange)
    → CanChangeEntries s rd level entries page → fits_page page ≡ true
page-fits s rd level entries None can = refl
page-fits s rd level (Replaced number entry) (Some page) can = by can.1
  where
    by : GoesWith s rd level number entry (Some page) → is_plain page.tag ≡ true
    by (inl given) = ap (λ (t : Tag). is_plain t) given.1
    by (inr taken) = ap (λ (t : Tag). is_plain t) taken.0
page-fits s rd level (RipasSet first last ripas) (Some page) can = absurd (let none : Some page ≡ None = can.1 in cc)

entries-fit : (s : State) (rd level : ℕ) (entries : EntryChange) (page : Option TagChange)
    → CanChangeEntries s rd level entries page → fits_entries entries ≡ true
entries-fit s rd level (Replaced number entry) page can = refl
entries-fit s rd level (RipasSet first last ripas) page can =
    let some : first < last = can.0.some in
    let one : last ≤ (first / 512 + 1) * 512 = can.0.one_table in
    and_from (nat_lt first last) (nat_le last ((first / 512 + 1) * 512)) (grind (arith, nat_tests)) (grind (arith, nat_tests))

realm_change-fits : (config : Config) (cpu : ℕ) (hold : Hold) (w : Whole config cpu hold) (change : Option RealmChange)
    → CanChangeRealm (state config cpu hold w) change
    → holds_realm hold.cells change ≡ true → fits_realm_change hold.cells change ≡ true
realm_change-fits config cpu hold w None can held = refl
realm_change-fits config cpu hold w (Some change) can held = realm-fits config cpu hold w change.rd change.update can.0 can.1 held

rec_change-fits : (config : Config) (cpu : ℕ) (hold : Hold) (w : Whole config cpu hold) (change : Option RecChange)
    → CanChangeRec (state config cpu hold w) change
    → holds_rec hold.cells change ≡ true → fits_rec_change hold.cells change ≡ true
rec_change-fits config cpu hold w None can held = refl
rec_change-fits config cpu hold w (Some change) can held =
    rec-fits config cpu hold w change.rec change.update can.0 can.1 (and_parts (is_held change.rec hold.cells) (is_moved change.update) held).0

parts-held : (held : List HeldCell) (rd level : ℕ) (entries : EntryChange)
    (page : Option TagChange) (realm : Option RealmChange) (rec : Option RecChange)
    → holds_change held (EntriesChanged rd level entries page realm rec) ≡ true → (holds_realm held realm ≡ true) × (holds_rec held rec ≡ true)
unfolding holds_change
parts-held held rd level entries page realm rec holds =
    let all = and_parts (holds_page held page && holds_realm held realm && holds_rec held rec)
    (is_some (table_placed held rd level (table_changed entries))) holds in
    let parts = and_parts (holds_page held page && holds_realm held realm) (holds_rec held rec) all.0 in
    ((and_parts (holds_page held page) (holds_realm held realm) parts.0).1, parts.1)

pub applied-fits : (config : Config) (cpu : ℕ) (hold : Hold) (w : Whole config cpu hold) (change : Change) → CanApply (state config cpu hold w) change
    → CanChange cpu hold change → can_make config hold.cells hold.side change ≡ true
unfolding can_make
applied-fits config cpu hold w Unchanged can fits = refl
applied-fits config cpu hold w (Retagged change) can fits = retag-fits (state config cpu hold w) change can
applied-fits config cpu hold w (RealmMade rd root width level vmid algo) can fits =
    and_from (is_space width level && is_hash algo) true (and_from (is_space width level) (is_hash algo) can.space can.hashes) refl
applied-fits config cpu hold w (RealmDestroyed rd root) can fits = refl
applied-fits config cpu hold w (RecMade rd rec mpidr flags aux0 aux1) can fits =
    and_from (counts_in mpidr (known_cell hold.cells rd) && not (aux0 == aux1))
    (is_granule config.granules rd && nat_le (hold.side.rec_counts rd) config.granules)
    (and_from (counts_in mpidr (known_cell hold.cells rd)) (not (aux0 == aux1))
    (counts config cpu hold w rd mpidr can.rd_tag can.index_fits fits.held.1.1.1.0) (ap not can.apart))
    (and_from (is_granule config.granules rd) (nat_le (hold.side.rec_counts rd) config.granules)
    (tagged config w.cells rd tag.Rd can.rd_tag).0 (few_recs config cpu hold w rd))
applied-fits config cpu hold w (RecDestroyed rec aux0 aux1) can fits = refl
applied-fits config cpu hold w (RecordsChanged None None) can fits = refl
applied-fits config cpu hold w (RecordsChanged (Some realm) None) can fits =
    let one = realm-fits config cpu hold w realm.rd realm.update can.0.0 can.0.1 fits.held.0 in
    rw one refl
applied-fits config cpu hold w (RecordsChanged None (Some rec)) can fits =
    let one = rec-fits config cpu hold w rec.rec rec.update can.1.0 can.1.1 fits.held.0 in
    rw one refl
applied-fits config cpu hold w (RecordsChanged (Some realm) (Some rec)) can fits =
    let first = realm-fits config cpu hold w realm.rd realm.update can.0.0 can.0.1 fits.held.0 in
    let second = rec-fits config cpu hold w rec.rec rec.update can.1.0 can.1.1 fits.held.1.0 in
    rw (first, second) refl
applied-fits config cpu hold w (TableMade rd level number rtt entry) can fits =
    let some : nat_lt 0 level ≡ true = lt-ltb 0 level (omega (arith, can.below_root)) in
    let last : nat_le level 3 ≡ true = le-leb level 3 can.place.last in
    rw (fits.tables, base-fits config cpu hold w rd level number can.rd_tag can.place, some, last) refl
applied-fits config cpu hold w (TableDestroyed rd level number rtt entry) can fits = rw fits.tables refl
applied-fits config cpu hold w (EntriesChanged rd level entries page realm rec) can fits =
    let holds = parts-held hold.cells rd level entries page realm rec fits.tables in
    let of_page = page-fits (state config cpu hold w) rd level entries page can.1 in
    let of_entries = entries-fit (state config cpu hold w) rd level entries page can.1 in
    let of_realm = realm_change-fits config cpu hold w realm can.2 holds.0 in
    let of_rec = rec_change-fits config cpu hold w rec can.3 holds.1 in
    rw (fits.tables, of_page, of_entries, of_realm, of_rec) refl

-- ---- a machine's size

more-granule : (granules rd : ℕ) → granules ≤ granule_limit Large → is_granule granules rd ≡ true → is_granule (granule_limit Large) rd ≡ true
unfolding is_granule
more-granule granules rd few is =
    let parts = and_parts (rd % 4096 == 0) (nat_lt rd (granules * 4096)) is in
    let below = ltb-true rd (granules * 4096) parts.1 in
    let past : nat_lt rd (granule_limit Large * 4096) ≡ true = grind (arith, nat_tests) in
    and_from (rd % 4096 == 0) (nat_lt rd (granule_limit Large * 4096)) parts.0 past

count-more : (granules : ℕ) (side : Side) (change : Change)
    → granules ≤ granule_limit Large → can_count granules side change ≡ true → can_count (granule_limit Large) side change ≡ true
count-more granules side (RecMade rd rec mpidr flags aux0 aux1) few is =
    let parts = and_parts (is_granule granules rd) (nat_le (side.rec_counts rd) granules) is in
    let least = parts.1 in
    let most : nat_le (side.rec_counts rd) (granule_limit Large) ≡ true = grind (arith, nat_tests) in
    and_from (is_granule (granule_limit Large) rd) (nat_le (side.rec_counts rd) (granule_limit Large)) (more-granule granules rd few parts.0) most
count-more granules side _ few is = refl

-- what can be made on a machine can be made on a larger one
pub makes : (config : Config) (held : List HeldCell) (side : Side) (place : CpuPlace) (change : Change) → config.granules ≤ granule_limit Large
    → can_make config held side change ≡ true → CanMake (hold_of held side place) change
unfolding can_make
makes config held side place change few is =
    let parts = and_parts (fits_cells held change) (can_count config.granules side change) is in
    record { fits = parts.0; counts = count-more config.granules side change few parts.1 }
