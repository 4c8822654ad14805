-- What a change makes of what is known of held cells is what it makes of the cells: the lists that are told apart by neither are one.
use Rattle.command_core.proofs.Common.{◌&&◌, ◌==◌, ◌||◌, ◌∙◌, ◌∷◌, ◌≡◌, arith, Bool, Change, HeldCell, IsTrue, List, None, Option, Rd, RealmRecord, Rec, RecRecord, Some, Undelegated, [], and_parts, ap, are_distinct, cell_in, eq-eqb, eqb-true, false, false≢true, granules_held, held_at, if◌then◌else◌, inl, inr, is_held, is_some, length, list_any, nat_le, nat_tests, new_cells, not, not-true, realm_in, refl, replaced_all, replaced_cells, subst, sym, true, ℕ, ◌<◌, ◌-◌, ◌≤◌, table_held, table_placed}
use Rattle.std.proofs.Common.{◌*◌, ◌++◌, ◌^◌, ◌⊎◌, map, nat_lt, ◌/◌}
use Rattle.std.specs.Prelude.{Contains, IfSome, unwrap_or}
use Rattle.std.specs.List.{AllByRecursion}
use Rattle.std.proofs.lemmas.Bool.{leb-true, or_parts, ltb-true}
use Rattle.rmm_spec.specs.declared.change.Change.TheVariants.{Unchanged, Retagged, RealmMade, RealmDestroyed, RecMade, RecDestroyed, RecordsChanged, TableMade, TableDestroyed, EntriesChanged}
use Rattle.rmm_spec.specs.declared.change.RealmChange.{RealmChange}
use Rattle.rmm_spec.specs.declared.change.RealmUpdate.{RealmUpdate}
use Rattle.rmm_spec.specs.declared.change.RealmUpdate.TheVariants as realm_update
use Rattle.rmm_spec.specs.declared.change.RecChange.{RecChange}
use Rattle.rmm_spec.specs.declared.change.RecUpdate.{RecUpdate}
use Rattle.rmm_spec.specs.declared.change.RecUpdate.TheVariants as rec_update
use Rattle.rmm_spec.specs.declared.change.TagChange.{TagChange}
use Rattle.rmm_spec.specs.Applicable.{IsRealmUpdate}
use Rattle.rmm_spec.specs.Cell.{Cell, put, rec_in}
use Rattle.rmm_spec.specs.Local.{Agrees, put_all}
use Rattle.rmm_spec.specs.Walk.{table_size}
use Rattle.spec_lemmas.proofs.Maps.{put-elsewhere}
use Rattle.realm_desc.specs.Updates.{IsRecUpdate}
use Rattle.granule_cells.specs.Changes.{CanPutAll, CanUpdate, FitsCells, cells_made, fits_entries, granules_changed, granules_put, is_plain, page_put, rec_changed, realm_changed, table_at}
use Rattle.granule_cells.specs.MadeLaws.{AgreeOn, IsApart, all-parts, cells_made-agree, cells_made-apart}
use Rattle.world_laws.specs.Held.{known_cell}
use Rattle.world_laws.specs.TableCells.{holds_change}
use Rattle.world_laws.proofs.AllHeld.{put_all-listed}
use Rattle.world_laws.proofs.Locals.{granules_held-replaced_all}
use Rattle.command_core.specs.Changed.{AreHeld, counts_in, fits_cells, fits_page, fits_realm, fits_realm_change, fits_rec, fits_rec_change, granules_touched, is_realm_update, is_rec_update, table_touched}
use Rattle.command_core.proofs.SeenCells.{is_held-replaced_cells}
use Rattle.rmm_spec.specs.Table.{TableRecord}
use Rattle.rtt_table.specs.Shaped.{IsShaped}
use Rattle.rmm_laws.specs.Whole.{width_in}
use Rattle.command_core.proofs.Places.{made-shaped}
use Rattle.lemmas.proofs.Members.{Contains-head, Contains-tail}

-- ---- what is known of cells that are replaced

-- the cell that is put in is there
cell_in-here : (held : List HeldCell) (g : ℕ) (c : Cell) → IsTrue (is_held g held) → cell_in g (replaced_cells held g c) ≡ Some c
cell_in-here [] g c has = absurd (false≢true has)
cell_in-here (h ∷ held) g c has = by (h.granule == g) has (λ below. cell_in-here held g c below)
  where
    by : (b : Bool) → IsTrue (is_some (if b then Some h.cell else cell_in g held))
        → (IsTrue (is_held g held) → cell_in g (replaced_cells held g c) ≡ Some c)
        → (if b then Some (if b then c else h.cell) else cell_in g (replaced_cells held g c)) ≡ Some c
    by true there rest = refl
    by false there rest = rest there

-- another granule's cell stays
cell_in-other : (held : List HeldCell) (k g : ℕ) (c : Cell) → (g == k) ≡ false → cell_in g (replaced_cells held k c) ≡ cell_in g held
cell_in-other [] k g c apart = refl
cell_in-other (h ∷ held) k g c apart = by (h.granule == g) (h.granule == k) refl refl (cell_in-other held k g c apart)
  where
    by : (a b : Bool) → (h.granule == g) ≡ a → (h.granule == k) ≡ b → cell_in g (replaced_cells held k c) ≡ cell_in g held
        → (if a then Some (if b then c else h.cell) else cell_in g (replaced_cells held k c)) ≡ (if a then Some h.cell else cell_in g held)
    by true true first second rest =
        absurd (false≢true (sym apart ∙ eq-eqb g k (sym (eqb-true h.granule g first) ∙ eqb-true h.granule k second)))
    by true false first second rest = refl
    by false b first second rest = rest

-- one replaced is one put in
pub known-replaced : (held : List HeldCell) (g : ℕ) (c : Cell) → IsTrue (is_held g held)
    → known_cell (replaced_cells held g c) ≡ put (known_cell held) g c
known-replaced held g c has = λ i x. at x (x == g) refl i
  where
    at : (x : ℕ) (b : Bool) → (x == g) ≡ b → known_cell (replaced_cells held g c) x ≡ put (known_cell held) g c x
    at x true same =
        let here : known_cell (replaced_cells held g c) x ≡ c =
        subst (λ k. known_cell (replaced_cells held g c) k ≡ c) (sym (eqb-true x g same))
        (ap (λ (o : Option Cell). unwrap_or o Undelegated) (cell_in-here held g c has)) in
        rw same here
    at x false apart = rw apart (ap (λ (o : Option Cell). unwrap_or o Undelegated) (cell_in-other held g x c apart))

-- and so are any
known-replaced_all : (changes held : List HeldCell) → AllByRecursion (λ (h : HeldCell). IsTrue (is_held h.granule held)) changes
    → known_cell (replaced_all held changes) ≡ put_all (known_cell held) changes
known-replaced_all [] held all = refl
known-replaced_all (h ∷ changes) held all =
    known-replaced_all changes (replaced_cells held h.granule h.cell) (still changes all.1)
    ∙ ap (λ cells. put_all cells changes) (known-replaced held h.granule h.cell all.0)
  where
    still : (xs : List HeldCell) → AllByRecursion (λ (x : HeldCell). IsTrue (is_held x.granule held)) xs
        → AllByRecursion (λ (x : HeldCell). IsTrue (is_held x.granule (replaced_cells held h.granule h.cell))) xs
    still [] each = tt
    still (x ∷ xs) each = (is_held-replaced_cells held x.granule h.granule h.cell ∙ each.0, still xs each.1)

-- ---- lists of one granule each

-- held cells are those that are known of them
listed : (held : List HeldCell) (cells : ℕ → Cell) → Agrees cells held → held ≡ map (λ g. held_at g (cells g)) (granules_held held)
listed [] cells agrees = refl
listed (h ∷ held) cells agrees = λ i. held_at h.granule (sym agrees.0 i) ∷ listed held cells agrees.1 i

-- where no granule stands twice, each cell is the one that is known
known-agrees : (held : List HeldCell) → IsTrue (are_distinct (granules_held held)) → Agrees (known_cell held) held
known-agrees [] distinct = tt
known-agrees (h ∷ held) distinct =
    let parts = and_parts (not (list_any (λ other. other == h.granule) (granules_held held))) (are_distinct (granules_held held)) distinct in (
      rw (eq-eqb h.granule h.granule refl) refl,
      behind held (not-true (list_any (λ other. other == h.granule) (granules_held held)) parts.0) (known-agrees held parts.1),
    )
  where
    behind : (xs : List HeldCell) → list_any (λ other. other == h.granule) (granules_held xs) ≡ false → Agrees (known_cell held) xs
        → Agrees (known_cell (h ∷ held)) xs
    behind [] none agrees = tt
    behind (x ∷ xs) none agrees =
        let apart = or_parts (x.granule == h.granule) (list_any (λ other. other == h.granule) (granules_held xs)) none in
        let other : (h.granule == x.granule) ≡ false = swapped x.granule apart.0 in
        (rw other agrees.0, behind xs apart.1 agrees.1)
      where
        swapped : (k : ℕ) → (k == h.granule) ≡ false → (h.granule == k) ≡ false
        swapped k is = grind (arith, nat_tests)

-- lists of the same granules, none twice, of which the same is known, are the same
pub same-held : (one two : List HeldCell) → IsTrue (are_distinct (granules_held two)) → granules_held one ≡ granules_held two
    → known_cell one ≡ known_cell two → one ≡ two
same-held one two distinct granules known =
    let first = listed one (known_cell one)
    (known-agrees one (subst (λ gs. IsTrue (are_distinct gs)) (sym granules) distinct)) in
    let second = listed two (known_cell two) (known-agrees two distinct) in
    first ∙ (λ i. map (λ g. held_at g (known i g)) (granules i)) ∙ sym second

-- ---- what a change makes

-- whether a granule is among some, as a fact on each
among : (P : ℕ → Type 0) (gs : List ℕ) (x : ℕ) → AllByRecursion P gs → (Contains gs x × P x) ⊎ IsApart x gs
among P [] x all = inr tt
among P (g ∷ gs) x all = by (x == g) refl (among P gs x all.1)
  where
    by : (b : Bool) → (x == g) ≡ b → (Contains gs x × P x) ⊎ IsApart x gs → (Contains (g ∷ gs) x × P x) ⊎ IsApart x (g ∷ gs)
    by true is rest =
        let same : g ≡ x = sym (eqb-true x g is) in
        inl (subst (λ k. Contains (g ∷ gs) k) same (Contains-head g gs), subst P same all.0)
    by false apart (inl found) = inl (Contains-tail g gs x found.0, found.1)
    by false apart (inr rest) = inr (apart, rest)

-- what it makes of cells is to put in what it makes of others that agree at the granules that it changes
pub made-put : (P : ℕ → Type 0) (cells other : ℕ → Cell) (at : Option ℕ) (change : Change) → AllByRecursion P (granules_changed at change)
    → AgreeOn P cells other
    → cells_made cells at change ≡ put_all cells (map (λ g. held_at g (cells_made other at change g)) (granules_changed at change))
made-put P cells other at change all agree = λ i x. by x (among P (granules_changed at change) x all) i
  where
    gs : List ℕ
    gs = granules_changed at change

    by : (x : ℕ) → (Contains gs x × P x) ⊎ IsApart x gs
        → cells_made cells at change x ≡ put_all cells (map (λ g. held_at g (cells_made other at change g)) gs) x
    by x (inl found) =
        cells_made-agree P cells other at change all agree x found.1 ∙ sym (put_all-listed gs cells (cells_made other at change) x (inl found.0))
    by x (inr apart) = cells_made-apart cells at change x apart ∙ sym (untouched gs cells apart)
      where
        untouched : (ks : List ℕ) (now : ℕ → Cell) → IsApart x ks → put_all now (map (λ g. held_at g (cells_made other at change g)) ks) x ≡ now x
        untouched [] now none = refl
        untouched (k ∷ ks) now none =
            untouched ks (put now k (cells_made other at change k)) none.1 ∙ put-elsewhere now k (cells_made other at change k) x none.0

-- each cell that is put in has its place
pub new-held : (held : List HeldCell) (change : Change) → AreHeld held change
    → AllByRecursion (λ (h : HeldCell). IsTrue (is_held h.granule held)) (new_cells held change)
unfolding new_cells
new-held held change all = each (granules_touched held change) all
  where
    each : (gs : List ℕ) → AllByRecursion (λ g. IsTrue (is_held g held)) gs
        → AllByRecursion (λ (h : HeldCell). IsTrue (is_held h.granule held))
        (map (λ g. held_at g (cells_made (known_cell held) (table_touched held change) change g)) gs)
    each [] has = tt
    each (g ∷ gs) has = (has.0, each gs has.1)

-- so held cells of which what it makes is known are those with its new cells
pub made-held : (held new : List HeldCell) (change : Change) → AreHeld held change → IsTrue (are_distinct (granules_held held))
    → granules_held new ≡ granules_held held → known_cell new ≡ cells_made (known_cell held) (table_touched held change) change
    → new ≡ replaced_all held (new_cells held change)
unfolding new_cells
made-held held new change all distinct granules known =
    let kept : granules_held (replaced_all held (new_cells held change)) ≡ granules_held held =
    granules_held-replaced_all (new_cells held change) held in
    same-held new (replaced_all held (new_cells held change)) (subst (λ gs. IsTrue (are_distinct gs)) (sym kept) distinct) (granules ∙ sym kept)
    (known ∙ made-put (λ g. IsTrue (is_held g held)) (known_cell held) (known_cell held) (table_touched held change) change all (λ g has. refl)
    ∙ sym (known-replaced_all (new_cells held change) held (new-held held change all)))

-- ---- what a change needs of held cells

-- a granule is held where it is among those that are
pub is_held-listed : (held : List HeldCell) (g : ℕ) → is_held g held ≡ list_any (λ other. other == g) (granules_held held)
is_held-listed [] g = refl
is_held-listed (h ∷ held) g = by (h.granule == g) (is_held-listed held g)
  where
    by : (b : Bool) → is_held g held ≡ list_any (λ other. other == g) (granules_held held)
        → is_some (if b then Some h.cell else cell_in g held) ≡ (b || list_any (λ other. other == g) (granules_held held))
    by true rest = refl
    by false rest = rest

-- a granule in which a cell is put is one that is changed
puts-held : (P : ℕ → Type 0) (at : Option ℕ) (change : Change) → AllByRecursion P (granules_changed at change)
    → AllByRecursion P (granules_put change)
puts-held P at (RecMade rd rec mpidr flags aux0 aux1) all = (all.0, (all.1.0, (all.1.1.0, tt)))
puts-held P at (TableMade rd level number rtt entry) all = (all-parts P (table_at at) (rtt ∷ []) all).1
puts-held P at (TableDestroyed rd level number rtt entry) all = (all-parts P (table_at at) (rtt ∷ []) all).1
puts-held P at (EntriesChanged rd level entries page realm rec) all =
    (all-parts P (page_put page) (realm_changed realm ++ (rec_changed rec ++ table_at at)) all).0
puts-held P at (RecordsChanged realm rec) all = tt
puts-held P at Unchanged all = tt
puts-held P at (Retagged change) all = all
puts-held P at (RealmMade rd root width level vmid algo) all = all
puts-held P at (RealmDestroyed rd root) all = all
puts-held P at (RecDestroyed rec aux0 aux1) all = all

pub can-put : (held : List HeldCell) (change : Change) → AreHeld held change
    → CanPutAll (λ g. list_any (λ other. other == g) (granules_held held)) change
can-put held change all = listed-all (granules_put change) (puts-held (λ g. IsTrue (is_held g held)) (table_touched held change) change all)
  where
    listed-all : (gs : List ℕ) → AllByRecursion (λ g. IsTrue (is_held g held)) gs
        → AllByRecursion (λ g. IsTrue (list_any (λ other. other == g) (granules_held held))) gs
    listed-all [] has = tt
    listed-all (g ∷ gs) has = (sym (is_held-listed held g) ∙ has.0, listed-all gs has.1)

realm_update-is : (u : RealmUpdate) → is_realm_update u ≡ true → IsRealmUpdate u
realm_update-is (realm_update.MeasurementExtended index size values) is =
    let all = and_parts (nat_le 1 index && nat_le index 4 && nat_le size 0x40) (length values == 8) is in
    let tests = and_parts (nat_le 1 index && nat_le index 4) (nat_le size 0x40) all.0 in
    let ends = and_parts (nat_le 1 index) (nat_le index 4) tests.0 in
    (leb-true 1 index ends.0, leb-true index 4 ends.1, leb-true size 0x40 tests.1, eqb-true (length values) 8 all.1)
realm_update-is (realm_update.PageMeasured ipa flags digest) is = eqb-true (length digest) 4 is
realm_update-is (realm_update.RecCounted mpidr flags) is = false≢true is
realm_update-is _ is = tt

fitting-realm : (u : RealmUpdate) (c : Cell) → fits_realm u c ≡ true → IsRealmUpdate u
fitting-realm u (Rd realm) is = realm_update-is u is
fitting-realm u _ is = absurd (false≢true is)

realm_change-fits : (held : List HeldCell) (o : Option RealmChange) → fits_realm_change held o ≡ true → IfSome o (λ c. IsRealmUpdate c.update)
realm_change-fits held None is = tt
realm_change-fits held (Some change) is = fitting-realm change.update (known_cell held change.rd) is

rec_update-is : (rec : RecRecord) (u : RecUpdate) → is_rec_update rec u ≡ true → IsRecUpdate rec u
rec_update-is rec (rec_update.RequestMoved base) is = is
rec_update-is rec _ is = tt

fitting-rec : (u : RecUpdate) (c : Cell) → fits_rec u c ≡ true → (rec : RecRecord) → rec_in c ≡ Some rec → IsRecUpdate rec u
fitting-rec u (Rec it) is rec same = rec_update-is rec u (let one : it ≡ rec = cc in subst (λ r. is_rec_update r u ≡ true) one is)
fitting-rec u _ is rec same = absurd (false≢true is)

rec_change-fits : (held : List HeldCell) (o : Option RecChange) → fits_rec_change held o ≡ true → IfSome o (CanUpdate (known_cell held))
rec_change-fits held None is = tt
rec_change-fits held (Some change) is = fitting-rec change.update (known_cell held change.rec) is

page-plain : (o : Option TagChange) → fits_page o ≡ true → IfSome o (λ c. IsTrue (is_plain c.tag))
page-plain None is = tt
page-plain (Some change) is = is

index-taken : (index : ℕ) (c : Cell) → counts_in index c ≡ true → (realm : RealmRecord) → realm_in c ≡ Some realm
    → IsTrue (index == realm.next_index && nat_lt index 8)
index-taken index (Rd it) is realm same = let one : it ≡ realm = cc in subst (λ r. counts_in index (Rd r) ≡ true) one is
index-taken index _ is realm same = absurd (false≢true is)

-- where the records are what the change updates, and the table that it changes stands where a realm's can, it fits what is known of them
pub fits-known : (held : List HeldCell) (change : Change) → IsTrue (fits_cells held change)
    → IfSome (table_touched held change) (λ g. IfSome (table_held held g) (λ (t : TableRecord). IsShaped t.place))
    → FitsCells (known_cell held) (table_touched held change) change
fits-known held (Retagged change) fits shaped = fits
fits-known held (RealmMade rd root width level vmid algo) fits shaped = fits
fits-known held (RecMade rd rec mpidr flags aux0 aux1) fits shaped =
    let parts = and_parts (counts_in mpidr (known_cell held rd)) (not (aux0 == aux1)) fits in
    (index-taken mpidr (known_cell held rd) parts.0, not-true (aux0 == aux1) parts.1)
fits-known held (RecordsChanged realm rec) fits shaped =
    let parts = and_parts (fits_realm_change held realm) (fits_rec_change held rec) fits in
    record { plain = tt; of_realm = realm_change-fits held realm parts.0; of_rec = rec_change-fits held rec parts.1 }
fits-known held (TableMade rd level number rtt entry) fits shaped =
    let holds : Bool = holds_change held (TableMade rd level number rtt entry) && nat_lt (number * table_size level) (2 ^ 64) in
    let levels = and_parts (nat_lt 0 level) (nat_le level 3) (and_parts holds (nat_lt 0 level && nat_le level 3) fits).1 in
    by (table_placed held rd (level - 1) (number / 512)) refl shaped (ltb-true 0 level levels.0) (leb-true level 3 levels.1)
  where
    by : (o : Option ℕ) → table_placed held rd (level - 1) (number / 512) ≡ o
        → IfSome o (λ g. IfSome (table_held held g) (λ (t : TableRecord). IsShaped t.place)) → 0 < level → level ≤ 3
        → IfSome o (λ g. IsShaped (record { rd = rd; level = level; base = number * table_size level; width = width_in (known_cell held g) }))
    by None is above some last = tt
    by (Some g) is above some last = made-shaped held rd level number g is above some last
fits-known held (EntriesChanged rd level entries page realm rec) fits shaped =
    let holds : Bool = holds_change held (EntriesChanged rd level entries page realm rec) in
    let of_rec = and_parts (holds && fits_page page && fits_entries entries && fits_realm_change held realm) (fits_rec_change held rec) fits in
    let of_realm = and_parts (holds && fits_page page && fits_entries entries) (fits_realm_change held realm) of_rec.0 in
    let of_entries = and_parts (holds && fits_page page) (fits_entries entries) of_realm.0 in
    let of_page = and_parts holds (fits_page page) of_entries.0 in (
      record {
        plain = page-plain page of_page.1;
        of_realm = realm_change-fits held realm of_realm.1;
        of_rec = rec_change-fits held rec of_rec.1;
      },
      of_entries.1,
    )
fits-known held _ fits shaped = tt
