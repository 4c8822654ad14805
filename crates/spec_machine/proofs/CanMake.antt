-- What a change that a well-shaped whole can take finds there.
use Rattle.spec_machine.proofs.Common.{◌%◌, ◌*◌, ◌+◌, ◌-◌, ◌/◌, ◌<◌, ◌==◌, ◌∙◌, ◌≡◌, ◌≤◌, Entry, Granules, IsShapedIn, IsTrue, None, Option, RealmRecord, Some, State, ap, arith, cells_of, flat_state, inl, inr, is_granule, lt-ltb, nat_lt, refl, same_Some, state_in, subst, sym, whole_of, ℕ}
use Rattle.std.proofs.Common.{IfSome, nat_le, ◌&&◌}
use Rattle.std.specs.List.{AllByRecursion}
use Rattle.std.proofs.lemmas.Bool.{and_from, and_parts, ltb-true}
use Rattle.std.proofs.lemmas.Bool.Decides.{nat_tests}
use Rattle.rmm_spec.specs.declared.version.Version.TheVariants.{Large}
use Rattle.spec_lemmas.proofs.Limits.{granule_limit_le}
use Rattle.rmm_spec.specs.declared.change.Change.{Change}
use Rattle.rmm_spec.specs.declared.change.Change.TheVariants.{Unchanged, Retagged, RealmMade, RealmDestroyed, RecMade, RecDestroyed, RecordsChanged, TableMade, TableDestroyed, EntriesChanged}
use Rattle.rmm_spec.specs.declared.change.EntryChange.{EntryChange}
use Rattle.rmm_spec.specs.declared.change.EntryChange.TheVariants.{Replaced, RipasSet}
use Rattle.rmm_spec.specs.declared.change.RealmChange.{RealmChange}
use Rattle.rmm_spec.specs.declared.change.RecChange.{RecChange}
use Rattle.rmm_spec.specs.declared.change.RecUpdate.{RecUpdate}
use Rattle.rmm_spec.specs.declared.change.RecUpdate.TheVariants.{RequestMoved}
use Rattle.rmm_spec.specs.declared.change.TagChange.{TagChange}
use Rattle.rmm_spec.specs.declared.tag.Tag.TheVariants as tag
use Rattle.rmm_spec.specs.Applicable.{CanApply, CanDestroyRealm, CanMakeRec, CanDestroyRec, CanMakeTable, CanDestroyTable, CanChangeEntries, CanChangeRealm, CanChangeRec, CanUpdateRec, IsRealmUpdate}
use Rattle.rmm_spec.specs.Cell as spec
use Rattle.rmm_spec.specs.Flat as spec_flat
use Rattle.rmm_spec.specs.HistoryText.{IsConfig, granule_limit}
use Rattle.rmm_spec.specs.Lookup.{is_hash, is_owned_by, has_tag, realm_at, rec_at}
use Rattle.rmm_spec.specs.State.{RecRecord}
use Rattle.rmm_spec.specs.Step.Terms.{is_space}
use Rattle.rmm_spec.specs.Walk.{is_table}
use Rattle.rmm_laws.proofs.Entries.{leaf_there}
use Rattle.rmm_laws.proofs.Searches.{realm_there, rec_there}
use Rattle.realm_desc.specs.Updates.{IsRecUpdate}
use Rattle.rtt_table.specs.Shaped.{IsShaped}
use Rattle.rmm_laws.specs.Whole.{copied_table, width_in}
use Rattle.rmm_laws.proofs.Cells.{cell-table}
use Rattle.rmm_laws.proofs.Finds.{table_granule-holds}
use Rattle.granule_cells.specs.declared.cell_change.CellChange.TheVariants.{Realm}
use Rattle.rmm_spec.specs.declared.change.RealmUpdate.TheVariants.{RecCounted}
use Rattle.granule_cells.specs.Changes.{CanPutAll, CanUpdate, FitsCells, fits_entries, is_plain, page_put, table_found}
use Rattle.granule_cells.specs.OneCell.{FitsCell}
use Rattle.granule_cells.specs.PlaceLaws.{shaped-below, shaped-whole}
use Rattle.spec_machine.specs.Whole.{count_of}
use Rattle.spec_machine.proofs.Found.{sound_in}
use Rattle.spec_machine.proofs.Tagged.{granule_tagged}
use Rattle.spec_lemmas.proofs.Lookups.{counted-le}

-- ---- granules that are freed

root_granule : (g : Granules) → IsShapedIn g → (rd root : ℕ) → CanDestroyRealm (state_in g) rd root → IsTrue (is_granule (count_of g) root)
root_granule g shaped rd root can =
    let s = state_in g in
    let sound = sound_in g shaped in
    let realm = realm_at s rd in
    granule_tagged g root tag.Rtt
    (rw can.is_root (sound.tables.tagged rd realm.start_level 0 realm.root (sound.tables.roots rd realm (realm_there s rd sound can.rd_tag))))

aux0_granule : (g : Granules) → IsShapedIn g → (rec aux0 aux1 : ℕ)
    → CanDestroyRec (state_in g) rec aux0 aux1 → IsTrue (is_granule (count_of g) aux0)
aux0_granule g shaped rec aux0 aux1 can =
    let s = state_in g in
    let sound = sound_in g shaped in
    granule_tagged g aux0 tag.RecAux (rw can.is_aux0 (sound.recs.aux0 rec (rec_at s rec) (rec_there s rec sound can.rec_tag)))

aux1_granule : (g : Granules) → IsShapedIn g → (rec aux0 aux1 : ℕ)
    → CanDestroyRec (state_in g) rec aux0 aux1 → IsTrue (is_granule (count_of g) aux1)
aux1_granule g shaped rec aux0 aux1 can =
    let s = state_in g in
    let sound = sound_in g shaped in
    granule_tagged g aux1 tag.RecAux (rw can.is_aux1 (sound.recs.aux1 rec (rec_at s rec) (rec_there s rec sound can.rec_tag)))

table_granule : (g : Granules) → IsShapedIn g → (rd level number rtt : ℕ) (entry : Entry) → CanDestroyTable (state_in g) rd level number rtt entry
    → IsTrue (is_granule (count_of g) rtt)
table_granule g shaped rd level number rtt entry can =
    granule_tagged g rtt tag.Rtt ((sound_in g shaped).tables.tagged rd level number rtt can.there)

-- ---- pages

-- a granule gets the tag of one that holds nothing
record IsPage (granules : ℕ) (change : TagChange) : Type 0 where
  granule : IsTrue (is_granule granules change.granule)
  plain : IsTrue (is_plain change.tag)

page_fits : (g : Granules) → IsShapedIn g → (rd level : ℕ) (entries : EntryChange) (page : Option TagChange)
    → CanChangeEntries (state_in g) rd level entries page → IfSome page (IsPage (count_of g))
page_fits g shaped rd level entries None can = tt
page_fits g shaped rd level (RipasSet first last ripas) (Some page) can = absurd (let bad : Some page ≡ None = can.1 in cc)
page_fits g shaped rd level (Replaced number entry) (Some page) can = elim can.1 [
  | inl given ↦ record { granule = granule_tagged g page.granule tag.Delegated given.0; plain = rw given.1 refl }
  | inr taken ↦ record {
    granule =
        let s = state_in g in
        let sound = sound_in g shaped in
        granule_tagged g page.granule tag.Data
        (sound.leaves.pages rd level number page.granule taken.2.0
        (leaf_there s sound rd level number can.0.table (ap is_table taken.2.1) ∙ ap Some taken.2.1));
    plain = rw taken.0 refl;
  }
]

-- ---- records

-- what a REC's record must be for a change is what its update requires
rec_update : (s : State) (rec : RecRecord) (update : RecUpdate) → CanUpdateRec s rec update → IsRecUpdate rec update
rec_update s rec (RequestMoved base) can = can.1
rec_update s rec _ can = tt

-- a REC that is there takes its update
rec_fits : (g : Granules) → IsShapedIn g → (change : RecChange) → CanChangeRec (state_in g) (Some change) → CanUpdate (cells_of g.list) change
unfolding state_in flat_state
rec_fits g shaped change can rec is =
    let s = state_in g in
    let same : rec_at s change.rec ≡ rec = same_Some (rec_at s change.rec) rec (sym (rec_there s change.rec (sound_in g shaped) can.0) ∙ is) in
    subst (λ r. IsRecUpdate r change.update) same (rec_update s (rec_at s change.rec) change.update can.1)

-- where one is updated
rec_change-fits : (g : Granules) → IsShapedIn g → (change : Option RecChange) → CanChangeRec (state_in g) change
    → IfSome change (CanUpdate (cells_of g.list))
rec_change-fits g shaped None can = tt
rec_change-fits g shaped (Some change) can = rec_fits g shaped change can

realm_change-fits : (s : State) (change : Option RealmChange) → CanChangeRealm s change → IfSome change (λ c. IsRealmUpdate c.update)
realm_change-fits s None can = tt
realm_change-fits s (Some change) can = can.1

-- ---- RECs that are made

realm-there : (g : Granules) → IsShapedIn g → (rd : ℕ) → IsTrue (has_tag (state_in g) rd tag.Rd) → (found : Option RealmRecord)
    → found ≡ (state_in g).realm rd → found ≡ Some (realm_at (state_in g) rd)
realm-there g shaped rd has found is = is ∙ realm_there (state_in g) rd (sound_in g shaped) has

-- the realm counts the REC that is made
index-fits : (g : Granules) → IsShapedIn g → (rd rec mpidr flags aux0 aux1 : ℕ) → CanMakeRec (state_in g) rd rec mpidr flags aux0 aux1
    → FitsCell (cells_of g.list rd) (Realm (RecCounted mpidr flags))
unfolding state_in flat_state
index-fits g shaped rd rec mpidr flags aux0 aux1 can = λ realm is.
    let s = state_in g in
    let there : Some realm ≡ Some (realm_at s rd) = sym is ∙ realm-there g shaped rd can.rd_tag (s.realm rd) refl in
    subst (λ (r : RealmRecord). IsTrue (mpidr == r.next_index && nat_lt mpidr 8)) (sym (same_Some realm (realm_at s rd) there)) can.index_fits

-- ---- counts

pub few_recs : (g : Granules) → IsShapedIn g → IsConfig g.list.config → (rd : ℕ) → (whole_of g).side.rec_counts rd ≤ granule_limit Large
few_recs g shaped limits rd =
    let most = counted-le (count_of g) (λ k. is_owned_by rd (spec.recs_of (cells_of g.list) (k * 4096))) in
    let counted = shaped.realms.counted rd in
    omega (arith, counted, most, limits.most_granules, granule_limit_le g.list.config.version)

pub within_limit : (g : Granules) → IsConfig g.list.config → (rd : ℕ)
    → IsTrue (is_granule (count_of g) rd) → IsTrue (is_granule (granule_limit Large) rd)
unfolding is_granule
within_limit g limits rd is =
    let parts = and_parts (rd % 4096 == 0) (nat_lt rd (count_of g * 4096)) is in
    let below = ltb-true rd (count_of g * 4096) parts.1 in
    and_from (rd % 4096 == 0) (nat_lt rd (granule_limit Large * 4096)) parts.0
    (lt-ltb rd (granule_limit Large * 4096) (omega (arith, below, limits.most_granules, granule_limit_le g.list.config.version)))

-- ---- tables that are made

-- a table that is made stands where its realm's table can, below the one that is found above
table-fits : (g : Granules) → IsShapedIn g → (rd level number rtt : ℕ) (entry : Entry) → CanMakeTable (state_in g) rd level number rtt entry
    → FitsCells (cells_of g.list) ((state_in g).table rd (level - 1) (number / 512)) (TableMade rd level number rtt entry)
unfolding state_in flat_state
table-fits g shaped rd level number rtt entry can =
    by (spec_flat.table_granule (count_of g) (spec.tables_of cells) rd (level - 1) (number / 512)) refl
  where
    cells : ℕ → spec.Cell
    cells = cells_of g.list

    by : (at : Option ℕ) → spec_flat.table_granule (count_of g) (spec.tables_of cells) rd (level - 1) (number / 512) ≡ at
        → IfSome at (λ above. IsShaped (copied_table rd level number (width_in (cells above)) entry).place)
    by None is = tt
    by (Some above) is =
        let held = table_granule-holds (count_of g) (spec.tables_of cells) rd (level - 1) (number / 512) above is in
        let t = held.table in
        let w = whole_of g in
        let place = shaped-whole g.list.config w.side w.places cells shaped above t held.is_held in
        subst (λ c. IsShaped (copied_table rd level number (width_in c) entry).place) (sym (cell-table (cells above) t held.is_held))
        (shaped-below t.place rd level number place (omega (arith, can.below_root)) can.place.last held.is_level held.is_number)

-- ---- changes

entries-fit : (s : State) (rd level : ℕ) (entries : EntryChange) (page : Option TagChange)
    → CanChangeEntries s rd level entries page → IsTrue (fits_entries entries)
entries-fit s rd level (Replaced number entry) page can = refl
entries-fit s rd level (RipasSet first last ripas) page can =
    let some : first < last = can.0.some in
    let one : last ≤ (first / 512 + 1) * 512 = can.0.one_table in
    and_from (nat_lt first last) (nat_le last ((first / 512 + 1) * 512)) (grind (arith, nat_tests)) (grind (arith, nat_tests))

-- a change fits the cells that it finds, where the table is found whose entries it changes
pub change-fits : (g : Granules) → IsShapedIn g → (change : Change) → CanApply (state_in g) change
    → FitsCells (cells_of g.list) (table_found (state_in g).table change) change
change-fits g shaped Unchanged can = tt
change-fits g shaped (Retagged change) can = elim can [
  | inl lent ↦ rw lent.1 refl
  | inr back ↦ rw back.1 refl
]
change-fits g shaped (RealmMade rd root width level vmid algo) can = and_from (is_space width level) (is_hash algo) can.space can.hashes
change-fits g shaped (RealmDestroyed rd root) can = tt
change-fits g shaped (RecMade rd rec mpidr flags aux0 aux1) can = (index-fits g shaped rd rec mpidr flags aux0 aux1 can, can.apart)
change-fits g shaped (RecDestroyed rec aux0 aux1) can = tt
change-fits g shaped (RecordsChanged realm rec) can = record {
  plain = tt;
  of_realm = realm_change-fits (state_in g) realm can.0;
  of_rec = rec_change-fits g shaped rec can.1;
}
change-fits g shaped (TableMade rd level number rtt entry) can = table-fits g shaped rd level number rtt entry can
change-fits g shaped (TableDestroyed rd level number rtt entry) can = tt
change-fits g shaped (EntriesChanged rd level entries page realm rec) can = (
  record {
    plain = by page (page_fits g shaped rd level entries page can.1);
    of_realm = realm_change-fits (state_in g) realm can.2;
    of_rec = rec_change-fits g shaped rec can.3;
  },
  entries-fit (state_in g) rd level entries page can.1,
)
  where
    by : (p : Option TagChange) → IfSome p (IsPage (count_of g)) → IfSome p (λ c. IsTrue (is_plain c.tag))
    by None fits = tt
    by (Some c) fits = fits.plain

-- where it puts a cell in there is a granule
pub granules-put : (g : Granules) → IsShapedIn g → (change : Change) → CanApply (state_in g) change
    → CanPutAll (is_granule (count_of g)) change
granules-put g shaped (Retagged change) can = (
  elim can [
    | inl lent ↦ granule_tagged g change.granule tag.Undelegated lent.0
    | inr back ↦ granule_tagged g change.granule tag.Delegated back.0
  ],
  tt,
)
granules-put g shaped (RealmMade rd root width level vmid algo) can =
    (granule_tagged g rd tag.Delegated can.rd_tag, (granule_tagged g root tag.Delegated can.root_tag, tt))
granules-put g shaped (RealmDestroyed rd root) can = (granule_tagged g rd tag.Rd can.rd_tag, (root_granule g shaped rd root can, tt))
granules-put g shaped (RecMade rd rec mpidr flags aux0 aux1) can = (
  granule_tagged g rec tag.Delegated can.rec_tag,
  (granule_tagged g aux0 tag.Delegated can.aux0_tag, (granule_tagged g aux1 tag.Delegated can.aux1_tag, tt)),
)
granules-put g shaped (RecDestroyed rec aux0 aux1) can = (
  granule_tagged g rec tag.Rec can.rec_tag,
  (aux0_granule g shaped rec aux0 aux1 can, (aux1_granule g shaped rec aux0 aux1 can, tt)),
)
granules-put g shaped (TableMade rd level number rtt entry) can = (granule_tagged g rtt tag.Delegated can.rtt_tag, tt)
granules-put g shaped (TableDestroyed rd level number rtt entry) can = (table_granule g shaped rd level number rtt entry can, tt)
granules-put g shaped (EntriesChanged rd level entries page realm rec) can = by page (page_fits g shaped rd level entries page can.1)
  where
    by : (p : Option TagChange) → IfSome p (IsPage (count_of g)) → AllByRecursion (λ a. IsTrue (is_granule (count_of g) a)) (page_put p)
    by None fits = tt
    by (Some c) fits = (fits.granule, tt)
granules-put g shaped _ can = tt
