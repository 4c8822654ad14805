-- Cells that a walk meets and no shaped whole has: there is no whole that agrees with them.
use Rattle.world_laws.proofs.Common.{◌&&◌, ◌==◌, ◌||◌, ◌∙◌, ◌≡◌, Cell, Config, Entry, HeldCell, HoldsTable, List, None, Option, Side, Some, Table, ap, false≢true, inl, inr, is_some, not, not-true, refl, subst, suc, sym, table_held, tables_of, true, ℕ}
use Rattle.std.proofs.Common.{◌+◌, ◌*◌, slice_get, eq-eqb}
use Rattle.std.specs.List.{list_any}
use Rattle.std.proofs.lemmas.Bool.{or_cases, and_from}
use Rattle.std.proofs.lemmas.Option.{same_Some}
use Rattle.rmm_spec.specs.declared.entry.Entry.TheVariants.{Unassigned, Assigned}
use Rattle.rmm_spec.specs.State.{RealmRecord}
use Rattle.rmm_spec.specs.Lookup.{is_granule}
use Rattle.rmm_spec.specs.Walk.{table_size}
use Rattle.rmm_spec.specs.Table.{TableRecord, entry_index, place_number}
use Rattle.rmm_spec.specs.Cell.{Undelegated, Delegated, Rd, Rec, RecAux, Data, Rtt, is_data, realm_in, table_in, realms_of}
use Rattle.rmm_spec.specs.Local.{granules_held}
use Rattle.spec_lemmas.proofs.Members.{passing_member}
use Rattle.spec_lemmas.proofs.Placed.{cell_is_granule}
use Rattle.rmm_laws.proofs.Cells.{cell-table}
use Rattle.world_laws.specs.Held.{cell_in}
use Rattle.world_laws.specs.Misfits.{is_place, is_other_table, is_other_page, is_misfit_part, is_misfit_table, is_misfit_root, is_misfit_walk}
use Rattle.world_laws.proofs.Wholes.{Whole, whole_cell, whole_table}

-- ---- places

-- a place has each part of a place
place-from : (rd level number width : ℕ) (t : TableRecord) → t.place.rd ≡ rd → t.place.level ≡ level → t.place.base ≡ number * table_size level
    → t.place.width ≡ width → is_place rd level number width t.place ≡ true
place-from rd level number width t first second third fourth =
    and_from (t.place.rd == rd && t.place.level == level && t.place.base == number * table_size level) (t.place.width == width)
    (and_from (t.place.rd == rd && t.place.level == level) (t.place.base == number * table_size level)
    (and_from (t.place.rd == rd) (t.place.level == level) (eq-eqb t.place.rd rd first) (eq-eqb t.place.level level second))
    (eq-eqb t.place.base (number * table_size level) third)) (eq-eqb t.place.width width fourth)

-- a table of the whole stands at the place that it is held for, with the width of its realm
table-place : {config : Config} {side : Side} {held : List HeldCell} (w : Whole config side held) (g rd level number : ℕ) (realm : RealmRecord)
    → realms_of w.cells rd ≡ Some realm → (holds : HoldsTable (tables_of w.cells) g rd level number)
    → is_place rd level number realm.width holds.table.place ≡ true
table-place {config} {side} {held} w g rd level number realm at holds =
    let own = w.shaped.tables.placed g holds.table holds.is_held in
    let one : own.0 ≡ realm = same_Some own.0 realm (sym own.1 ∙ (ap (realms_of w.cells) holds.is_realm ∙ at)) in
    let base : holds.table.place.base ≡ number * table_size level =
    own.2.base ∙ λ i. holds.is_number i * table_size (holds.is_level i) in
    place-from rd level number realm.width holds.table holds.is_realm holds.is_level base (own.2.width ∙ ap (λ (r : RealmRecord). r.width) one)

-- what isn't undelegated is at a granule
granule-there : {config : Config} {side : Side} {held : List HeldCell} (w : Whole config side held) (g : ℕ)
    → (w.cells g ≡ Undelegated → ⊥) → not (is_granule config.granules g) ≡ true → ⊥
granule-there {config} {side} {held} w g there none =
    false≢true (sym (not-true (is_granule config.granules g) none) ∙ cell_is_granule config side w.places w.cells w.shaped g there)

-- ---- tables

-- a table of the whole is at a granule, and is no other where it is held
other-none : {config : Config} {side : Side} {held : List HeldCell} (w : Whole config side held) (g rd level number : ℕ) (realm : RealmRecord)
    → realms_of w.cells rd ≡ Some realm → HoldsTable (tables_of w.cells) g rd level number
    → (not (is_granule config.granules g) || is_other_table rd level number realm.width (cell_in g held)) ≡ true → ⊥
other-none {config} {side} {held} w g rd level number realm at holds bad =
    elim (or_cases (not (is_granule config.granules g)) (is_other_table rd level number realm.width (cell_in g held)) bad) [
      | inl none ↦ granule-there w g (λ undelegated. false≢true (ap (λ (c : Cell). is_some (table_in c)) (sym undelegated ∙ cell))) none
      | inr other ↦ by (cell_in g held) refl other
    ]
  where
    cell : w.cells g ≡ Rtt holds.table
    cell = cell-table (w.cells g) holds.table holds.is_held

    no_table : (c : Cell) → cell_in g held ≡ Some c → is_some (table_in c) ≡ true
    no_table c found = ap (λ (x : Cell). is_some (table_in x)) (sym (whole_cell w g c found) ∙ cell)

    by : (o : Option Cell) → cell_in g held ≡ o → is_other_table rd level number realm.width o ≡ true → ⊥
    by None found is = false≢true is
    by (Some (Rtt t)) found is =
        let same : holds.table ≡ t = same_Some holds.table t (sym holds.is_held ∙ ap table_in (whole_cell w g (Rtt t) found)) in
        false≢true (sym (not-true (is_place rd level number realm.width t.place) is)
        ∙ (ap (λ (x : TableRecord). is_place rd level number realm.width x.place) (sym same) ∙ table-place w g rd level number realm at holds))
    by (Some Undelegated) found is = false≢true (no_table Undelegated found)
    by (Some Delegated) found is = false≢true (no_table Delegated found)
    by (Some (Rd x)) found is = false≢true (no_table (Rd x) found)
    by (Some (Rec x)) found is = false≢true (no_table (Rec x) found)
    by (Some RecAux) found is = false≢true (no_table RecAux found)
    by (Some Data) found is = false≢true (no_table Data found)

-- ---- pages

-- a page of the whole is at a granule, and is DATA where it is held
page-none : {config : Config} {side : Side} {held : List HeldCell} (w : Whole config side held) (page : ℕ) → is_data (w.cells page) ≡ true
    → (not (is_granule config.granules page) || is_other_page (cell_in page held)) ≡ true → ⊥
page-none {config} {side} {held} w page is_one bad =
    elim (or_cases (not (is_granule config.granules page)) (is_other_page (cell_in page held)) bad) [
      | inl none ↦ granule-there w page (λ undelegated. false≢true (ap is_data (sym undelegated) ∙ is_one)) none
      | inr other ↦ by (cell_in page held) refl other
    ]
  where
    by : (o : Option Cell) → cell_in page held ≡ o → is_other_page o ≡ true → ⊥
    by None found is = false≢true is
    by (Some c) found is = false≢true (sym (not-true (is_data c) is) ∙ (ap is_data (sym (whole_cell w page c found)) ∙ is_one))

-- ---- what a held table names

-- what an entry of the whole names is no misfit
part-none : {config : Config} {side : Side} {held : List HeldCell}
    (w : Whole config side held) (g : ℕ) (t : TableRecord) (index : ℕ) (o : Option Entry)
    → tables_of w.cells g ≡ Some t → slice_get t.entries index ≡ o → is_misfit_part config held t index o ≡ true → ⊥
part-none {config} {side} {held} w g t index (Some (Table child)) at entry bad =
    let own = w.shaped.tables.placed g t at in
    other-none w child t.place.rd (suc t.place.level)
    (512 * place_number t.place + index) own.0 own.1 (w.shaped.tables.links g index child t at entry)
    (subst (λ width. (not (is_granule config.granules child)
    || is_other_table t.place.rd (suc t.place.level) (512 * place_number t.place + index) width (cell_in child held)) ≡ true)
    own.2.width bad)
part-none {config} {side} {held} w g t index (Some (Assigned ripas page)) at entry bad =
    page-none w page (w.shaped.data_granules.named g index page t ripas at entry) bad
part-none {config} {side} {held} w g t index (Some (Unassigned ripas)) at entry bad = false≢true bad
part-none {config} {side} {held} w g t index _ at entry bad = false≢true bad

-- nor is what a held table names for the address
table-none : {config : Config} {side : Side} {held : List HeldCell} (w : Whole config side held) (ipa g : ℕ) (o : Option TableRecord)
    → table_held held g ≡ o → is_misfit_table config held ipa o ≡ true → ⊥
table-none {config} {side} {held} w ipa g None found bad = false≢true bad
table-none {config} {side} {held} w ipa g (Some t) found bad =
    let index = entry_index t.place.level ipa in
    part-none w g t index (slice_get t.entries index) (whole_table w g t found) refl bad

-- ---- a realm's root

-- nor is the root of a held realm
root-none : {config : Config} {side : Side} {held : List HeldCell} (w : Whole config side held) (rd : ℕ) (o : Option Cell) → cell_in rd held ≡ o
    → is_misfit_root config held rd o ≡ true → ⊥
root-none {config} {side} {held} w rd (Some (Rd realm)) found bad =
    let at : realms_of w.cells rd ≡ Some realm = ap realm_in (whole_cell w rd (Rd realm) found) in
    other-none w realm.root rd realm.start_level 0 realm at (w.shaped.tables.roots rd realm at) bad
root-none {config} {side} {held} w rd _ found bad = false≢true bad

-- ---- walks

-- a walk meets no misfit in a whole
pub misfit-none : {config : Config} {side : Side} {held : List HeldCell} (w : Whole config side held) (rd ipa : ℕ)
    → is_misfit_walk config held rd ipa ≡ true → ⊥
unfolding is_misfit_walk
misfit-none {config} {side} {held} w rd ipa bad =
    elim (or_cases (is_misfit_root config held rd (cell_in rd held))
    (list_any (λ g. is_misfit_table config held ipa (table_held held g)) (granules_held held)) bad) [
      | inl root ↦ root-none w rd (cell_in rd held) refl root
      | inr some ↦ (let at = passing_member (λ g. is_misfit_table config held ipa (table_held held g)) (granules_held held) some in
          table-none w ipa at.1 (table_held held at.1) refl at.3)
    ]
