-- Entries of one table are changed, with the tag of a page and with records.
use Rattle.rmm_laws.proofs.ShapeCommon.{◌*◌, ◌+◌, ◌/◌, ◌∙◌, ◌≡◌, Cell, Config, Delegated, Entry, IsShaped, IsSound, List, None, Option, Rd, RealmRecord, Rec, RecRecord, Rtt, Some, State, Table, TableRecord, Whole, ap, by_address, cells_changed, changed, flat_state, inl, inr, none-some, place_number, places_changed, put, realm_at, realm_in, realms_of, rec_in, recs_of, refl, same_Some, side_changed, slice_get, subst, suc, sym, table_granule, table_in, tables_of, ℕ, value_there}
use Rattle.rmm_spec.specs.declared.change.Change.TheVariants.{EntriesChanged}
use Rattle.rmm_spec.specs.declared.change.EntryChange.{EntryChange}
use Rattle.rmm_spec.specs.declared.change.EntryChange.TheVariants.{Replaced, RipasSet}
use Rattle.rmm_spec.specs.declared.change.RealmChange.{RealmChange}
use Rattle.rmm_spec.specs.declared.change.RecChange.{RecChange}
use Rattle.rmm_spec.specs.declared.change.TagChange.{TagChange}
use Rattle.rmm_spec.specs.declared.tag.Tag.TheVariants as tag
use Rattle.rmm_spec.specs.Lookup.{rec_at}
use Rattle.rmm_spec.specs.Change.{with_realm_change, with_rec_change, with_tag_change, with_entry_change}
use Rattle.rmm_spec.specs.Applicable.{CanChangeEntries, CanChangeRealm, CanChangeRec}
use Rattle.rmm_spec.specs.Cell.{Data}
use Rattle.rmm_laws.proofs.Entries.{leaf_there, fitting_leaf}
use Rattle.rmm_laws.specs.Whole.{cell_with_tag, cell_with_realm, cell_with_rec, cells_with_entries, cells_with_tag_change, cells_with_realm_change, cells_with_rec_change, changed_at, table_changed, entries_changed}
use Rattle.rmm_laws.proofs.Cells.{Views, views_of, tag-cell, cell-data, cell-table}
use Rattle.rmm_laws.proofs.EntriesSet.{with_entries, IsRewritten, replaced_entries, ripas_entries}
use Rattle.rmm_laws.proofs.Finds.{table_granule-holds, table_granule-kept}
use Rattle.rmm_laws.proofs.ShapeKept.{Makes, plain-delegated, plain-data, AreListed-like, ArePlaced-like, delegated_there, rd_there, rec_cell_there}
use Rattle.rmm_laws.proofs.Leaves.{ArePlaced-entries}
use Rattle.rmm_laws.proofs.ShapeRecords.{views_of-realm_change, views_of-rec_change, realm_change-like, rec_change-alike, rec_change-inside}
use Rattle.rmm_laws.proofs.ShapeRetagged.{CanGetTag, views_of-retagged}
use Rattle.rmm_laws.proofs.TablesMade.{views_of-entries}
use Rattle.rmm_laws.proofs.ShapeTies.{AreLinks, ArePlaced, IsTied-shaped, well_shaped-is_sound}

-- ---- the page

abbrev CanChangePage : (ℕ → Cell) → Option TagChange → Type 0
CanChangePage cells None = Unit {0}
CanChangePage cells (Some change) = CanGetTag cells change

views_of-page : (config : Config) (cells : ℕ → Cell) (page : Option TagChange) → CanChangePage cells page
    → views_of (cells_with_tag_change cells page) ≡ record (views_of cells) { tags = (with_tag_change (flat_state config cells) page).tag }
unfolding flat_state
views_of-page config cells None can = refl
views_of-page config cells (Some change) can = views_of-retagged cells change can

-- the page that goes with an entry is lent, or is the one that the entry names
page_cells : (config : Config) (cells : ℕ → Cell) (rd level : ℕ) (entries : EntryChange) (page : Option TagChange) → IsSound (flat_state config cells)
    → CanChangeEntries (flat_state config cells) rd level entries page → CanChangePage cells page
page_cells config cells rd level entries None sound can = tt
page_cells config cells rd level (RipasSet first last ripas) (Some page) sound can = absurd (let bad : Some page ≡ None = can.1 in cc)
page_cells config cells rd level (Replaced number entry) (Some page) sound can = elim can.1 [
  | inl given ↦ record {
    old = Delegated;
    new = Data;
    is_old = delegated_there config cells page.granule given.0;
    is_new = ap (λ t. cell_with_tag t (cells page.granule)) given.1;
    is_tag = sym given.1;
    old_plain = plain-delegated;
    new_plain = plain-data;
  }
  | inr taken ↦ (let s = flat_state config cells in
      let leaf = leaf_there s sound rd level number can.0.table can.0.leaf ∙ ap Some taken.2.1 in
      record {
        old = Data;
        new = Delegated;
        is_old = cell-data (cells page.granule)
            (tag-cell config cells page.granule tag.Data (sound.leaves.pages rd level number page.granule taken.2.0 leaf));
        is_new = ap (λ t. cell_with_tag t (cells page.granule)) taken.0;
        is_tag = sym taken.0;
        old_plain = plain-data;
        new_plain = plain-delegated;
      })
]

-- ---- cells that stay

-- a cell that isn't the one that is changed
changed-stays : (now : ℕ → Cell) (address : ℕ) (change : Cell → Cell) (old : Cell) (a : ℕ) (c : Cell) → now address ≡ old → now a ≡ c → (old ≡ c → ⊥)
    → changed_at now address change a ≡ c
changed-stays now address change old a c is at apart =
    by_address (λ x. x ≡ c) a address (change (now address)) (now a) (λ here. absurd (apart (sym is ∙ ap now (sym here) ∙ at))) (λ _. at)

-- a cell that holds a record, a page's change leaves
page-stays : (cells : ℕ → Cell) (page : Option TagChange) → CanChangePage cells page → (a : ℕ) (c : Cell) → cells a ≡ c
    → ((old : Cell) → realm_in old ≡ None → rec_in old ≡ None → table_in old ≡ None → old ≡ c → ⊥) → cells_with_tag_change cells page a ≡ c
page-stays cells None can a c is apart = is
page-stays cells (Some change) can a c is apart =
    changed-stays cells change.granule (cell_with_tag change.tag) can.old a c can.is_old is
    (apart can.old can.old_plain.realm can.old_plain.rec can.old_plain.table)

realm-stays : (config : Config) (cells now : ℕ → Cell) (change : Option RealmChange) → IsSound (flat_state config cells)
    → CanChangeRealm (flat_state config cells) change → ((a : ℕ) (r : RealmRecord) → cells a ≡ Rd r → now a ≡ Rd r)
    → (a : ℕ) (c : Cell) → now a ≡ c → ((r : RealmRecord) → Rd r ≡ c → ⊥) → cells_with_realm_change now change a ≡ c
realm-stays config cells now None sound can stay a c at apart = at
realm-stays config cells now (Some change) sound can stay a c at apart =
    let old : RealmRecord = realm_at (flat_state config cells) change.rd in
    changed-stays now change.rd (cell_with_realm change.update) (Rd old) a c
    (stay change.rd old (rd_there config cells change.rd sound can.0)) at (apart old)

rec-stays : (config : Config) (cells now : ℕ → Cell) (change : Option RecChange) → IsSound (flat_state config cells)
    → CanChangeRec (flat_state config cells) change → ((a : ℕ) (r : RecRecord) → cells a ≡ Rec r → now a ≡ Rec r)
    → (a : ℕ) (c : Cell) → now a ≡ c → ((r : RecRecord) → Rec r ≡ c → ⊥) → cells_with_rec_change now change a ≡ c
rec-stays config cells now None sound can stay a c at apart = at
rec-stays config cells now (Some change) sound can stay a c at apart =
    let old : RecRecord = rec_at (flat_state config cells) change.rec in
    changed-stays now change.rec (cell_with_rec change.update) (Rec old) a c
    (stay change.rec old (rec_cell_there config cells change.rec sound can.0)) at (apart old)

-- ---- the entries

-- the table whose entries are changed, and what they are then
record IsEntryChange (config : Config) (cells : ℕ → Cell) (rd level : ℕ) (entries : EntryChange) : Type 0 where
  granule : ℕ
  table : TableRecord
  is_found : table_granule config.granules (tables_of cells) rd level (table_changed entries) ≡ Some granule
  is_held : tables_of cells granule ≡ Some table
  rewritten : IsRewritten config.granules (tables_of cells) granule table
      (entries_changed entries table.entries) (with_entry_change (flat_state config cells) rd level entries).leaf

entry_change_is : (config : Config) (cells : ℕ → Cell) (rd level : ℕ) (entries : EntryChange) (page : Option TagChange)
    → ArePlaced config.granules (realms_of cells) (tables_of cells)
    → CanChangeEntries (flat_state config cells) rd level entries page → IsEntryChange config cells rd level entries
unfolding flat_state
entry_change_is config cells rd level (Replaced number entry) page placed can =
    let found = value_there (table_granule config.granules (tables_of cells) rd level (number / 512)) can.0.table in
    let held = table_granule-holds config.granules (tables_of cells) rd level (number / 512) found.0 found.1 in
    record {
      granule = found.0;
      table = held.table;
      is_found = found.1;
      is_held = held.is_held;
      rewritten = replaced_entries config.granules (tables_of cells) found.0 held.table rd level number entry placed.found held.is_held
          (record { is_realm = held.is_realm; is_level = held.is_level; is_number = held.is_number }) (placed.whole found.0 held.table held.is_held)
          (fitting_leaf entry _ level number can.0.kind);
    }
entry_change_is config cells rd level (RipasSet first last ripas) page placed can =
    let found = value_there (table_granule config.granules (tables_of cells) rd level (first / 512)) can.0.table in
    let held = table_granule-holds config.granules (tables_of cells) rd level (first / 512) found.0 found.1 in
    record {
      granule = found.0;
      table = held.table;
      is_found = found.1;
      is_held = held.is_held;
      rewritten = ripas_entries config.granules (tables_of cells) found.0 held.table rd level first last ripas placed.found held.is_held
          (record { is_realm = held.is_realm; is_level = held.is_level; is_number = held.is_number }) (placed.whole found.0 held.table held.is_held)
          can.0.some can.0.one_table;
    }

-- links that stay lead where they led
AreLinks-entries : (granules : ℕ) (tables : ℕ → Option TableRecord) (granule : ℕ) (t : TableRecord) (entries : List Entry) → tables granule ≡ Some t
    → ((i child : ℕ) → slice_get entries i ≡ Some (Table child) → slice_get t.entries i ≡ Some (Table child))
    → AreLinks granules tables → AreLinks granules (put tables granule (Some (with_entries t entries)))
AreLinks-entries granules tables granule t entries held stay old g i child x =
    let now = put tables granule (Some (with_entries t entries)) in
    let kept : (other l n : ℕ) → table_granule granules now other l n ≡ table_granule granules tables other l n =
    λ other l n k. table_granule-kept granules tables granule t (with_entries t entries) held refl k other l n in
    by_address (λ o. o ≡ Some x → slice_get x.entries i ≡ Some (Table child)
    → table_granule granules now x.place.rd (suc x.place.level) (512 * place_number x.place + i) ≡ Some child)
    g granule (Some (with_entries t entries)) (tables g)
    (λ _ is link.
    let same : with_entries t entries ≡ x = same_Some (with_entries t entries) x is in
    subst (λ (v : TableRecord). table_granule granules now v.place.rd (suc v.place.level) (512 * place_number v.place + i) ≡ Some child) same
    (kept t.place.rd (suc t.place.level) (512 * place_number t.place + i)
    ∙ old granule i child t held (stay i child (ap (λ (v : TableRecord). slice_get v.entries i) same ∙ link))))
    (λ _ is link. kept x.place.rd (suc x.place.level) (512 * place_number x.place + i) ∙ old g i child x is link)

-- ---- the change

-- the parts of the state are changed in any order
entries_parts : (s : State) (rd level : ℕ) (entries : EntryChange) (page : Option TagChange) (realm : Option RealmChange) (rec : Option RecChange)
    → record s {
      tag = (with_tag_change s page).tag;
      realm = (with_realm_change s realm).realm;
      rec = (with_rec_change s rec).rec;
      leaf = (with_entry_change s rd level entries).leaf;
    } ≡ with_entry_change (with_rec_change (with_realm_change (with_tag_change s page) realm) rec) rd level entries
unfolding realm_at rec_at
entries_parts s rd level (Replaced number entry) None None None = refl
entries_parts s rd level (Replaced number entry) None None (Some rec) = refl
entries_parts s rd level (Replaced number entry) None (Some realm) None = refl
entries_parts s rd level (Replaced number entry) None (Some realm) (Some rec) = refl
entries_parts s rd level (Replaced number entry) (Some page) None None = refl
entries_parts s rd level (Replaced number entry) (Some page) None (Some rec) = refl
entries_parts s rd level (Replaced number entry) (Some page) (Some realm) None = refl
entries_parts s rd level (Replaced number entry) (Some page) (Some realm) (Some rec) = refl
entries_parts s rd level (RipasSet first last ripas) None None None = refl
entries_parts s rd level (RipasSet first last ripas) None None (Some rec) = refl
entries_parts s rd level (RipasSet first last ripas) None (Some realm) None = refl
entries_parts s rd level (RipasSet first last ripas) None (Some realm) (Some rec) = refl
entries_parts s rd level (RipasSet first last ripas) (Some page) None None = refl
entries_parts s rd level (RipasSet first last ripas) (Some page) None (Some rec) = refl
entries_parts s rd level (RipasSet first last ripas) (Some page) (Some realm) None = refl
entries_parts s rd level (RipasSet first last ripas) (Some page) (Some realm) (Some rec) = refl

pub Makes-entries : (config : Config) (w : Whole) (rd level : ℕ) (entries : EntryChange)
    (page : Option TagChange) (realm : Option RealmChange) (rec : Option RecChange)
    → IsShaped config w → CanChangeEntries (flat_state config w.cells) rd level entries page → CanChangeRealm (flat_state config w.cells) realm
    → CanChangeRec (flat_state config w.cells) rec → Makes config w (EntriesChanged rd level entries page realm rec)
unfolding changed cells_changed side_changed places_changed flat_state
Makes-entries config w rd level entries page realm rec shaped can can_realm can_rec =
    let s : State = flat_state config w.cells in
    let cells = w.cells in
    let sound = well_shaped-is_sound config w.side w.places w.cells shaped in
    let old = IsTied-shaped config w.side w.places w.cells shaped in
    let can_page = page_cells config cells rd level entries page sound can in
    let change = entry_change_is config cells rd level entries page old.tables can in
    let g : ℕ = change.granule in
    let t : TableRecord = change.table in
    let ys : List Entry = entries_changed entries t.entries in
    let one : ℕ → Cell = cells_with_tag_change cells page in
    let two : ℕ → Cell = cells_with_realm_change one realm in
    let three : ℕ → Cell = cells_with_rec_change two rec in
    let rds : (a : ℕ) (r : RealmRecord) → cells a ≡ Rd r → one a ≡ Rd r =
    λ a r is. page-stays cells page can_page a (Rd r) is (λ o none _ _ same. none-some r (sym none ∙ ap realm_in same)) in
    let recs : (a : ℕ) (c : RecRecord) → cells a ≡ Rec c → two a ≡ Rec c =
    λ a c is. realm-stays config cells one realm sound can_realm rds a (Rec c)
    (page-stays cells page can_page a (Rec c) is (λ o _ none _ same. none-some c (sym none ∙ ap rec_in same)))
    (λ r same. none-some r (sym (ap realm_in same))) in
    let table_is : cells g ≡ Rtt t = cell-table (cells g) t change.is_held in
    let table_still : three g ≡ Rtt t =
    rec-stays config cells two rec sound can_rec recs g (Rtt t)
    (realm-stays config cells one realm sound can_realm rds g (Rtt t)
    (page-stays cells page can_page g (Rtt t) table_is (λ o _ _ none same. none-some t (sym none ∙ ap table_in same)))
    (λ r same. none-some r (sym (ap realm_in same))))
    (λ c same. none-some c (sym (ap rec_in same))) in
    let first = views_of-page config cells page can_page in
    let second = views_of-realm_change config cells one realm sound can_realm rds (ap (λ (v : Views). v.realms) first) in
    let third = views_of-rec_change config cells two rec sound can_rec recs (ap (λ (v : Views). v.recs) second ∙ ap (λ (v : Views). v.recs) first) in
    let fourth = views_of-entries three g t (entries_changed entries) table_still in
    let all : views_of three ≡ record {
      tags = (with_tag_change s page).tag;
      realms = (with_realm_change s realm).realm;
      recs = (with_rec_change s rec).rec;
      tables = tables_of cells;
    } = third ∙ (λ i. record (second i) { recs = (with_rec_change s rec).rec })
    ∙ (λ i. record (first i) { realms = (with_realm_change s realm).realm; recs = (with_rec_change s rec).rec }) in
    let like = realm_change-like config cells realm sound can_realm in
    record {
      views = record {
        tags = (with_tag_change s page).tag;
        realms = (with_realm_change s realm).realm;
        recs = (with_rec_change s rec).rec;
        tables = put (tables_of cells) g (Some (with_entries t ys));
      };
      seen = ap (λ found. views_of (cells_with_entries three (entries_changed entries) found)) change.is_found
          ∙ fourth
          ∙ (λ i. record (all i) { tables = put (all i).tables g (Some (with_entries t ys)) });
      flat = (λ i. record {
        config = config;
        tag = (with_tag_change s page).tag;
        realm = (with_realm_change s realm).realm;
        rec = (with_rec_change s rec).rec;
        table = table_granule-kept config.granules (tables_of cells) g t (with_entries t ys) change.is_held refl i;
        leaf = λ other l n. change.rewritten.leaves other l n i;
      })
          ∙ entries_parts s rd level entries page realm rec;
      tied = record {
        sides = AreListed-like config.granules w.side (realms_of cells)
            (with_realm_change s realm).realm (recs_of cells) (with_rec_change s rec).rec like
            (rec_change-alike config cells rec sound can_rec) old.sides;
        tables = ArePlaced-entries config.granules (with_realm_change s realm).realm (tables_of cells) g t (with_entries t ys)
            (ArePlaced-like config.granules (realms_of cells) (with_realm_change s realm).realm (tables_of cells) like old.tables)
            change.is_held refl change.rewritten.whole;
        links = AreLinks-entries config.granules (tables_of cells) g t ys change.is_held change.rewritten.links old.links;
        inside = rec_change-inside config cells w.places rec sound can_rec old.inside;
      };
    }
