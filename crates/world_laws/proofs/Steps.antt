-- What a change of tables makes of the cells that are held is what it makes of each whole that agrees: so it is a local step.
use Rattle.world_laws.proofs.Common.{◌&&◌, ◌-◌, ◌/◌, ◌==◌, ◌∙◌, ◌∷◌, ◌≡◌, ◌⊎◌, Cell, Config, Entry, HeldCell, IsTrue, List, None, Option, Side, Some, Table, [], and_parts, ap, false, false≢true, flat_state, inl, inr, is_held, is_some, refl, subst, sym, table_placed, tables_of, true, ℕ}
use Rattle.std.proofs.Common.{◌%◌, ◌++◌, Ok}
use Rattle.std.specs.Prelude.{slice_set}
use Rattle.std.specs.List.{AllByRecursion}
use Rattle.std.proofs.lemmas.List.Elements.{All-contains, All-from_recursion}
use Rattle.rmm_spec.specs.declared.accepted.Accepted.TheVariants.{Reaches}
use Rattle.rmm_spec.specs.declared.accepted.Stretch.{Stretch}
use Rattle.rmm_spec.specs.declared.change.Change.{Change}
use Rattle.rmm_spec.specs.declared.change.Change.TheVariants.{Unchanged, TableMade, TableDestroyed, EntriesChanged}
use Rattle.rmm_spec.specs.declared.change.EntryChange.{EntryChange}
use Rattle.rmm_spec.specs.declared.change.EntryChange.TheVariants.{Replaced, RipasSet}
use Rattle.rmm_spec.specs.declared.change.RealmChange.{RealmChange}
use Rattle.rmm_spec.specs.declared.change.RecChange.{RecChange}
use Rattle.rmm_spec.specs.declared.change.RecUpdate.{RecUpdate}
use Rattle.rmm_spec.specs.declared.change.RecUpdate.TheVariants as update
use Rattle.rmm_spec.specs.declared.change.TagChange.{TagChange}
use Rattle.rmm_spec.specs.declared.command.Command.{Command}
use Rattle.rmm_spec.specs.declared.reply.Reply.{Reply}
use Rattle.rmm_spec.specs.declared.tag.Tag.{Tag}
use Rattle.rmm_spec.specs.declared.tag.Tag.TheVariants as tag
use Rattle.rmm_spec.specs.Applicable.{CanApply, CanChangeEntries, CanChangeRealm, CanChangeRec}
use Rattle.rmm_spec.specs.Call.{call_of}
use Rattle.rmm_spec.specs.Lookup.{tag_number}
use Rattle.rmm_spec.specs.Rows.{ok, done}
use Rattle.rmm_spec.specs.Step.{Step, outcome}
use Rattle.rmm_spec.specs.Step.Ripas.{IsReached, reached_change}
use Rattle.rmm_spec.specs.Cell.{Delegated, Rtt, put, tag_of}
use Rattle.rmm_spec.specs.Flat.{table_granule}
use Rattle.rmm_spec.specs.Shape.{CpuPlace, IsWellShaped}
use Rattle.rmm_spec.specs.Local.{Hold, Agrees, put_all, LocalStep}
use Rattle.rmm_laws.proofs.Entries.{leaf_there}
use Rattle.rmm_laws.proofs.Runs.{done_applies, reached_applies}
use Rattle.world_laws.specs.Replaced.{held_at}
use Rattle.spec_lemmas.proofs.Maps.{put-other, put-same}
use Rattle.world_laws.proofs.Locals.{step-is_local}
use Rattle.rmm_laws.specs.Whole.{cell_with_tag, cell_with_realm, cell_with_rec, cell_with_entries, width_in, copied_table, cells_with_entries, cells_with_table, table_changed, entries_changed, cells_with_tag_change, cells_with_realm_change, cells_with_rec_change, cells_changed, side_changed, places_changed, places_of_rec, places_with_rec_change, whole_changed, IsShaped}
use Rattle.rmm_laws.proofs.Accepted.{done-keeps_shape, reached-keeps_shape}
use Rattle.rmm_laws.proofs.Cells.{tag-cell, cell-table}
use Rattle.world_laws.specs.Held.{known_cell}
use Rattle.world_laws.specs.TableCells.{tag_cells, realm_cells, rec_cells, entry_cells, made_cells, table_cells, tables_changed, holds_page, holds_realm, is_moved, holds_rec, holds_change}
use Rattle.world_laws.proofs.Found.{placed-holds}
use Rattle.world_laws.proofs.Tables.{whole_holds, placed-found}
use Rattle.world_laws.proofs.Wholes.{Whole, state, sound, same_at, held-contains, table-is_held}

-- ---- lists of cells

-- cells are put in one list after the other
put_all-append : (xs ys : List HeldCell) (cells : ℕ → Cell) → put_all cells (xs ++ ys) ≡ put_all (put_all cells xs) ys
put_all-append [] ys cells = refl
put_all-append (h ∷ xs) ys cells = put_all-append xs ys (put cells h.granule h.cell)

-- each cell that is put in has its place
abbrev AreHeld : List HeldCell → List HeldCell → Type 0
AreHeld held changes = AllByRecursion (λ (h : HeldCell). IsTrue (is_held h.granule held)) changes

-- in two lists, one after the other
AreHeld-append : (held xs ys : List HeldCell) → AreHeld held xs → AreHeld held ys → AreHeld held (xs ++ ys)
AreHeld-append held [] ys first second = second
AreHeld-append held (h ∷ xs) ys first second = (first.0, AreHeld-append held xs ys first.1 second)

-- ---- the table that is changed

-- a table that is found among the held cells is held
placed-is_held : (held : List HeldCell) (rd level number g : ℕ) → table_placed held rd level number ≡ Some g → IsTrue (is_held g held)
placed-is_held held rd level number g is = let holds = placed-holds held rd level number g is in table-is_held held g holds.table holds.is_held

-- it is found in the whole too
table-found : {config : Config} {side : Side} {held : List HeldCell} (w : Whole config side held) (rd level number g : ℕ)
    → table_placed held rd level number ≡ Some g → table_granule config.granules (tables_of w.cells) rd level number ≡ Some g
unfolding flat_state
table-found {config} {side} {held} w rd level number g is = placed-found w rd level number g is

-- a held table is a table of the whole
table-tag : {config : Config} {side : Side} {held : List HeldCell} (w : Whole config side held) (rd level number g : ℕ)
    → table_placed held rd level number ≡ Some g → tag_of (w.cells g) ≡ tag.Rtt
table-tag {config} {side} {held} w rd level number g is =
    let holds = whole_holds w g rd level number (placed-holds held rd level number g is) in
    ap tag_of (cell-table (w.cells g) holds.table holds.is_held)

-- a table is put in
made-changed : {config : Config} {side : Side} {held : List HeldCell}
    (w : Whole config side held) (rd level number rtt : ℕ) (entry : Entry) (o : Option ℕ)
    → table_placed held rd (level - 1) (number / 512) ≡ o → is_some o ≡ true
    → cells_changed config w.cells (TableMade rd level number rtt entry) ≡ put_all w.cells (made_cells held rd level number rtt entry o)
unfolding cells_changed
made-changed {config} {side} {held} w rd level number rtt entry None is there = absurd (false≢true there)
made-changed {config} {side} {held} w rd level number rtt entry (Some above) is there =
    let linked : List Entry → List Entry = λ entries. slice_set entries (number % 512) (Table rtt) in
    ap (cells_with_table w.cells rd level number rtt entry) (table-found w rd (level - 1) (number / 512) above is)
    ∙ ap (λ c. put (put w.cells above (cell_with_entries linked c)) rtt (Rtt (copied_table rd level number (width_in c) entry)))
    (same_at w above (placed-is_held held rd (level - 1) (number / 512) above is))

-- a table is taken out
destroyed-changed : {config : Config} {side : Side} {held : List HeldCell}
    (w : Whole config side held) (rd level number rtt : ℕ) (entry : Entry) (o : Option ℕ)
    → table_placed held rd (level - 1) (number / 512) ≡ o → is_some o ≡ true
    → cells_changed config w.cells (TableDestroyed rd level number rtt entry)
    ≡ put_all w.cells (entry_cells held (λ entries. slice_set entries (number % 512) entry) o ++ held_at rtt Delegated ∷ [])
unfolding cells_changed
destroyed-changed {config} {side} {held} w rd level number rtt entry None is there = absurd (false≢true there)
destroyed-changed {config} {side} {held} w rd level number rtt entry (Some above) is there =
    let unlinked : List Entry → List Entry = λ entries. slice_set entries (number % 512) entry in
    ap (λ o. put (cells_with_entries w.cells unlinked o) rtt Delegated) (table-found w rd (level - 1) (number / 512) above is)
    ∙ ap (λ c. put (put w.cells above (cell_with_entries unlinked c)) rtt Delegated)
    (same_at w above (placed-is_held held rd (level - 1) (number / 512) above is))

-- ---- what goes with changed entries

-- two tags are of two granules
tags-apart : (cells : ℕ → Cell) (g h : ℕ) (t u : Tag)
    → tag_of (cells g) ≡ t → tag_of (cells h) ≡ u → (tag_number t == tag_number u) ≡ false → g ≡ h → ⊥
tags-apart cells g h t u first second apart same =
    let one : t ≡ u = sym first ∙ (ap (λ x. tag_of (cells x)) same ∙ second) in
    false≢true (sym apart ∙ subst (λ (x : Tag). (tag_number t == tag_number x) ≡ true) one (itself t))
  where
    itself : (x : Tag) → (tag_number x == tag_number x) ≡ true
    itself tag.Undelegated = refl
    itself _ = refl

-- the granule of a page that is given or taken
abbrev IsPage : (ℕ → Cell) → Option TagChange → Type 0
IsPage cells None = Unit {0}
IsPage cells (Some change) = (tag_of (cells change.granule) ≡ tag.Delegated) ⊎ (tag_of (cells change.granule) ≡ tag.Data)

-- by what the change requires of the page
page-tag : {config : Config} {side : Side} {held : List HeldCell} (w : Whole config side held)
    (rd level : ℕ) (entries : EntryChange) (page : Option TagChange)
    → CanChangeEntries (state w) rd level entries page → IsPage w.cells page
page-tag {config} {side} {held} w rd level entries None can = tt
page-tag {config} {side} {held} w rd level (RipasSet first last ripas) (Some change) can = absurd (let bad : Some change ≡ None = can.1 in cc)
page-tag {config} {side} {held} w rd level (Replaced number entry) (Some change) can = elim can.1 [
  | inl given ↦ inl (tag-cell config w.cells change.granule tag.Delegated given.0)
  | inr taken ↦ inr (tag-cell config w.cells change.granule tag.Data
      ((sound w).leaves.pages rd level number change.granule taken.2.0
      (leaf_there (state w) (sound w) rd level number can.0.table can.0.leaf ∙ ap (λ (e : Entry). Some e) taken.2.1)))
]

-- a cell with another tag isn't the page's
page-kept : (cells : ℕ → Cell) (page : Option TagChange) (g : ℕ) (t : Tag) → IsPage cells page → tag_of (cells g) ≡ t
    → (tag_number t == tag_number tag.Delegated) ≡ false
    → (tag_number t == tag_number tag.Data) ≡ false → cells_with_tag_change cells page g ≡ cells g
page-kept cells None g t is tagged first second = refl
page-kept cells (Some change) g t is tagged first second =
    put-other cells change.granule (cell_with_tag change.tag (cells change.granule)) g (elim is [
      | inl given ↦ tags-apart cells g change.granule t tag.Delegated tagged given first
      | inr taken ↦ tags-apart cells g change.granule t tag.Data tagged taken second
    ])

-- a cell that isn't the realm's is kept
realm-kept : (cells old : ℕ → Cell) (realm : Option RealmChange) (g : ℕ) → ((change : RealmChange) → realm ≡ Some change → g ≡ change.rd → ⊥)
    → cells g ≡ old g → cells_with_realm_change cells realm g ≡ old g
realm-kept cells old None g apart same = same
realm-kept cells old (Some change) g apart same =
    put-other cells change.rd (cell_with_realm change.update (cells change.rd)) g (apart change refl) ∙ same

-- nor the REC's
rec-kept : (cells old : ℕ → Cell) (rec : Option RecChange) (g : ℕ) → ((change : RecChange) → rec ≡ Some change → g ≡ change.rec → ⊥)
    → cells g ≡ old g → cells_with_rec_change cells rec g ≡ old g
rec-kept cells old None g apart same = same
rec-kept cells old (Some change) g apart same =
    put-other cells change.rec (cell_with_rec change.update (cells change.rec)) g (apart change refl) ∙ same

-- the cells that are put in, one kind after the other
page-put : {config : Config} {side : Side} {held : List HeldCell} (w : Whole config side held) (page : Option TagChange) → holds_page held page ≡ true
    → cells_with_tag_change w.cells page ≡ put_all w.cells (tag_cells held page)
page-put {config} {side} {held} w None has = refl
page-put {config} {side} {held} w (Some change) has = ap (λ c. put w.cells change.granule (cell_with_tag change.tag c)) (same_at w change.granule has)

-- the realm's cell
realm-put : (cells : ℕ → Cell) (held : List HeldCell) (realm : Option RealmChange)
    → ((change : RealmChange) → realm ≡ Some change → cells change.rd ≡ known_cell held change.rd)
    → cells_with_realm_change cells realm ≡ put_all cells (realm_cells held realm)
realm-put cells held None same = refl
realm-put cells held (Some change) same = ap (λ c. put cells change.rd (cell_with_realm change.update c)) (same change refl)

-- the REC's cell
rec-put : (cells : ℕ → Cell) (held : List HeldCell) (rec : Option RecChange)
    → ((change : RecChange) → rec ≡ Some change → cells change.rec ≡ known_cell held change.rec)
    → cells_with_rec_change cells rec ≡ put_all cells (rec_cells held rec)
rec-put cells held None same = refl
rec-put cells held (Some change) same = ap (λ c. put cells change.rec (cell_with_rec change.update c)) (same change refl)

-- the tags of the realm and the REC
realm-tag : {config : Config} {side : Side} {held : List HeldCell} (w : Whole config side held) (realm : Option RealmChange)
    → CanChangeRealm (state w) realm
    → (change : RealmChange) → realm ≡ Some change → tag_of (w.cells change.rd) ≡ tag.Rd
realm-tag {config} {side} {held} w None can change is = absurd cc
realm-tag {config} {side} {held} w (Some other) can change is =
    subst (λ (c : RealmChange). tag_of (w.cells c.rd) ≡ tag.Rd)
    (let same : other ≡ change = cc in same) (tag-cell config w.cells other.rd tag.Rd can.0)

-- and of the REC
rec-tag : {config : Config} {side : Side} {held : List HeldCell} (w : Whole config side held) (rec : Option RecChange) → CanChangeRec (state w) rec
    → (change : RecChange) → rec ≡ Some change → tag_of (w.cells change.rec) ≡ tag.Rec
rec-tag {config} {side} {held} w None can change is = absurd cc
rec-tag {config} {side} {held} w (Some other) can change is =
    subst (λ (c : RecChange). tag_of (w.cells c.rec) ≡ tag.Rec)
    (let same : other ≡ change = cc in same) (tag-cell config w.cells other.rec tag.Rec can.0)

-- the realm is held
realm-held : (held : List HeldCell) (realm : Option RealmChange) → holds_realm held realm ≡ true → (change : RealmChange)
    → realm ≡ Some change → is_held change.rd held ≡ true
realm-held held None has change is = absurd cc
realm-held held (Some other) has change is = subst (λ (c : RealmChange). is_held c.rd held ≡ true) (let same : other ≡ change = cc in same) has

-- the REC is held
rec-held : (held : List HeldCell) (rec : Option RecChange) → holds_rec held rec ≡ true → (change : RecChange)
    → rec ≡ Some change → is_held change.rec held ≡ true
rec-held held None has change is = absurd cc
rec-held held (Some other) has change is =
    subst (λ (c : RecChange). is_held c.rec held ≡ true) (let same : other ≡ change = cc in same)
    (and_parts (is_held other.rec held) (is_moved other.update) has).0

-- what has to be held of changed entries
record HoldsParts (held : List HeldCell) (page : Option TagChange)
    (realm : Option RealmChange) (rec : Option RecChange) (table : Option ℕ) : Type 0 where
  of_page : holds_page held page ≡ true
  of_realm : holds_realm held realm ≡ true
  of_rec : holds_rec held rec ≡ true
  of_table : is_some table ≡ true

-- by the test of what is held
held-parts : (held : List HeldCell) (page : Option TagChange) (realm : Option RealmChange) (rec : Option RecChange) (table : Option ℕ)
    → (holds_page held page && holds_realm held realm && holds_rec held rec && is_some table) ≡ true → HoldsParts held page realm rec table
held-parts held page realm rec table holds =
    let last = and_parts (holds_page held page && holds_realm held realm && holds_rec held rec) (is_some table) holds in
    let third = and_parts (holds_page held page && holds_realm held realm) (holds_rec held rec) last.0 in
    let second = and_parts (holds_page held page) (holds_realm held realm) third.0 in
    record { of_page = second.0; of_realm = second.1; of_rec = third.1; of_table = last.1 }

-- entries are changed, with what goes with them
entries-put : {config : Config} {side : Side} {held : List HeldCell} (w : Whole config side held) (rd level : ℕ) (entries : EntryChange)
    (page : Option TagChange) (realm : Option RealmChange) (rec : Option RecChange)
    → CanApply (state w) (EntriesChanged rd level entries page realm rec)
    → (o : Option ℕ) → table_placed held rd level (table_changed entries) ≡ o → HoldsParts held page realm rec o
    → cells_changed config w.cells (EntriesChanged rd level entries page realm rec)
    ≡ put_all w.cells (tag_cells held page ++ (realm_cells held realm ++ (rec_cells held rec ++ entry_cells held (entries_changed entries) o)))
unfolding cells_changed
entries-put {config} {side} {held} w rd level entries page realm rec can None is parts = absurd (false≢true parts.of_table)
entries-put {config} {side} {held} w rd level entries page realm rec can (Some g) is parts =
    ap (cells_with_entries third (entries_changed entries)) (table-found w rd level (table_changed entries) g is)
    ∙ (ap (λ c. put third g (cell_with_entries (entries_changed entries) c)) table_cell
    ∙ (ap (λ cells. put_all cells last)
    (rec-put second held rec rec_cell ∙ ap (λ cells. put_all cells (rec_cells held rec)) (realm-put first held realm realm_cell
    ∙ ap (λ cells. put_all cells (realm_cells held realm)) (page-put w page parts.of_page)))
    ∙ sym (put_all-append (tag_cells held page) (realm_cells held realm ++ (rec_cells held rec ++ last)) w.cells
    ∙ (put_all-append (realm_cells held realm) (rec_cells held rec ++ last) (put_all w.cells (tag_cells held page))
    ∙ put_all-append (rec_cells held rec) last (put_all (put_all w.cells (tag_cells held page)) (realm_cells held realm))))))
  where
    first : ℕ → Cell
    first = cells_with_tag_change w.cells page

    second : ℕ → Cell
    second = cells_with_realm_change first realm

    third : ℕ → Cell
    third = cells_with_rec_change second rec

    last : List HeldCell
    last = entry_cells held (entries_changed entries) (Some g)

    is_page : IsPage w.cells page
    is_page = page-tag w rd level entries page can.1

    realm_cell : (change : RealmChange) → realm ≡ Some change → first change.rd ≡ known_cell held change.rd
    realm_cell change at =
        page-kept w.cells page change.rd tag.Rd is_page (realm-tag w realm can.2 change at) refl refl
        ∙ same_at w change.rd (realm-held held realm parts.of_realm change at)

    rec_cell : (change : RecChange) → rec ≡ Some change → second change.rec ≡ known_cell held change.rec
    rec_cell change at =
        let tagged = rec-tag w rec can.3 change at in
        realm-kept first w.cells realm change.rec
        (λ other here. tags-apart w.cells change.rec other.rd tag.Rec tag.Rd tagged (realm-tag w realm can.2 other here) refl)
        (page-kept w.cells page change.rec tag.Rec is_page tagged refl refl)
        ∙ same_at w change.rec (rec-held held rec parts.of_rec change at)

    table_cell : third g ≡ known_cell held g
    table_cell =
        let tagged = table-tag w rd level (table_changed entries) g is in
        rec-kept second w.cells rec g (λ other here. tags-apart w.cells g other.rec tag.Rtt tag.Rec tagged (rec-tag w rec can.3 other here) refl)
        (realm-kept first w.cells realm g
        (λ other here. tags-apart w.cells g other.rd tag.Rtt tag.Rd tagged (realm-tag w realm can.2 other here) refl)
        (page-kept w.cells page g tag.Rtt is_page tagged refl refl))
        ∙ same_at w g (placed-is_held held rd level (table_changed entries) g is)

-- ---- any change of a walk

-- each kind of change that a walk makes
pub cells-changed : {config : Config} {side : Side} {held : List HeldCell} (w : Whole config side held) (change : Change) → CanApply (state w) change
    → holds_change held change ≡ true → cells_changed config w.cells change ≡ put_all w.cells (table_cells held change)
unfolding table_cells holds_change cells_changed
cells-changed {config} {side} {held} w Unchanged can holds = refl
cells-changed {config} {side} {held} w (TableMade rd level number rtt entry) can holds =
    made-changed w rd level number rtt entry (table_placed held rd (level - 1) (number / 512)) refl
    (and_parts (is_held rtt held) (is_some (table_placed held rd (level - 1) (number / 512))) holds).1
cells-changed {config} {side} {held} w (TableDestroyed rd level number rtt entry) can holds =
    destroyed-changed w rd level number rtt entry (table_placed held rd (level - 1) (number / 512)) refl
    (and_parts (is_held rtt held) (is_some (table_placed held rd (level - 1) (number / 512))) holds).1
cells-changed {config} {side} {held} w (EntriesChanged rd level entries page realm rec) can holds =
    entries-put w rd level entries page realm rec can (table_placed held rd level (table_changed entries)) refl
    (held-parts held page realm rec (table_placed held rd level (table_changed entries)) holds)
cells-changed {config} {side} {held} w _ can holds = absurd (false≢true holds)

-- the table whose entries are changed is held
entry-held : (held : List HeldCell) (change : List Entry → List Entry) (rd level number : ℕ) (o : Option ℕ) → table_placed held rd level number ≡ o
    → AreHeld held (entry_cells held change o)
entry-held held change rd level number None is = tt
entry-held held change rd level number (Some g) is = (placed-is_held held rd level number g is, tt)

-- and so are both tables where one is made
made-held : (held : List HeldCell) (rd level number rtt : ℕ) (entry : Entry) (o : Option ℕ) → table_placed held rd (level - 1) (number / 512) ≡ o
    → is_held rtt held ≡ true → AreHeld held (made_cells held rd level number rtt entry o)
made-held held rd level number rtt entry None is has = tt
made-held held rd level number rtt entry (Some g) is has = (placed-is_held held rd (level - 1) (number / 512) g is, (has, tt))

-- all cells that are put in are held
pub cells-held : (held : List HeldCell) (change : Change) → holds_change held change ≡ true → AreHeld held (table_cells held change)
unfolding table_cells holds_change
cells-held held (TableMade rd level number rtt entry) holds =
    made-held held rd level number rtt entry (table_placed held rd (level - 1) (number / 512)) refl
    (and_parts (is_held rtt held) (is_some (table_placed held rd (level - 1) (number / 512))) holds).0
cells-held held (TableDestroyed rd level number rtt entry) holds =
    AreHeld-append held (entry_cells held (λ entries. slice_set entries (number % 512) entry)
    (table_placed held rd (level - 1) (number / 512))) (held_at rtt Delegated ∷ [])
    (entry-held held (λ entries. slice_set entries (number % 512) entry) rd
    (level - 1) (number / 512) (table_placed held rd (level - 1) (number / 512)) refl)
    ((and_parts (is_held rtt held) (is_some (table_placed held rd (level - 1) (number / 512))) holds).0, tt)
cells-held held (EntriesChanged rd level entries page realm rec) holds =
    let parts = held-parts held page realm rec (table_placed held rd level (table_changed entries)) holds in
    AreHeld-append held (tag_cells held page) _ (of_page page parts.of_page)
    (AreHeld-append held (realm_cells held realm) _ (of_realm realm parts.of_realm)
    (AreHeld-append held (rec_cells held rec) _ (of_rec rec parts.of_rec)
    (entry-held held (entries_changed entries) rd level (table_changed entries) (table_placed held rd level (table_changed entries)) refl)))
  where
    of_page : (p : Option TagChange) → holds_page held p ≡ true → AreHeld held (tag_cells held p)
    of_page None has = tt
    of_page (Some change) has = (has, tt)

    of_realm : (r : Option RealmChange) → holds_realm held r ≡ true → AreHeld held (realm_cells held r)
    of_realm None has = tt
    of_realm (Some change) has = (has, tt)

    of_rec : (r : Option RecChange) → holds_rec held r ≡ true → AreHeld held (rec_cells held r)
    of_rec None has = tt
    of_rec (Some change) has = ((and_parts (is_held change.rec held) (is_moved change.update) has).0, tt)
cells-held held _ holds = tt

-- ---- beside the cells

-- the side table stays
side-kept : (held : List HeldCell) (cells : ℕ → Cell) (side : Side) (change : Change)
    → holds_change held change ≡ true → side_changed cells side change ≡ side
unfolding side_changed holds_change
side-kept held cells side Unchanged holds = refl
side-kept held cells side (TableMade rd level number rtt entry) holds = refl
side-kept held cells side (TableDestroyed rd level number rtt entry) holds = refl
side-kept held cells side (EntriesChanged rd level entries page realm rec) holds = refl
side-kept held cells side _ holds = absurd (false≢true holds)

-- a request that is moved on moves no CPU
rec-places : (held : List HeldCell) (cells : ℕ → Cell) (places : ℕ → CpuPlace) (rec : Option RecChange) → holds_rec held rec ≡ true
    → places_with_rec_change cells places rec ≡ places
rec-places held cells places None holds = refl
rec-places held cells places (Some change) holds = by change.update (and_parts (is_held change.rec held) (is_moved change.update) holds).1
  where
    by : (u : RecUpdate) → is_moved u ≡ true → places_of_rec places change.rec u (cells change.rec) ≡ places
    by (update.RequestMoved base) moved = refl
    by _ moved = absurd (false≢true moved)

-- and CPUs stay where they are
places-kept : (held : List HeldCell) (cells : ℕ → Cell) (places : ℕ → CpuPlace) (change : Change) → holds_change held change ≡ true
    → places_changed cells places change ≡ places
unfolding places_changed holds_change
places-kept held cells places Unchanged holds = refl
places-kept held cells places (TableMade rd level number rtt entry) holds = refl
places-kept held cells places (TableDestroyed rd level number rtt entry) holds = refl
places-kept held cells places (EntriesChanged rd level entries page realm rec) holds =
    rec-places held cells places rec (held-parts held page realm rec (table_placed held rd level (table_changed entries)) holds).of_rec
places-kept held cells places _ holds = absurd (false≢true holds)

-- ---- local steps

-- what every whole that agrees may do, with a change of what is held, is a local step
change-local : (config : Config) (cpu : ℕ) (command : Command) (given : Reply) (hold : Hold) (change : Change) → holds_change hold.cells change ≡ true
    → ((cells : ℕ → Cell) (places : ℕ → CpuPlace) → IsWellShaped config hold.side places cells → Agrees cells hold.cells → places cpu ≡ hold.place
    → CanApply (flat_state config cells) change
    × IsShaped config (whole_changed config (record { cells = cells; side = hold.side; places = places }) change)
    × Step (flat_state config cells) cpu command given (flat_state config (cells_changed config cells change)))
    → LocalStep config cpu command given hold (tables_changed hold change)
change-local config cpu command given hold change holds each =
    step-is_local config cpu command given hold (table_cells hold.cells change) hold.side hold.place
    (λ h has. held-contains hold.cells h.granule
    (All-contains (λ (x : HeldCell). IsTrue (is_held x.granule hold.cells)) (table_cells hold.cells change) h
    (All-from_recursion (λ (x : HeldCell). IsTrue (is_held x.granule hold.cells))
    (table_cells hold.cells change) (cells-held hold.cells change holds)) has))
    (λ cells places shaped agrees placed.
    let w : Whole config hold.side hold.cells = record { cells = cells; places = places; shaped = shaped; agrees = agrees } in
    let s = flat_state config cells in
    let one = each cells places shaped agrees placed in
    let of_cells = cells-changed w change one.0 holds in
    let kept_side = side-kept hold.cells cells hold.side change holds in
    let kept_places = places-kept hold.cells cells places change holds ∙ sym (put-same places cpu hold.place placed) in (
      subst (λ new. Step s cpu command given (flat_state config new)) of_cells one.2,
      subst (λ new. IsWellShaped config hold.side (put places cpu hold.place) new) of_cells
          (subst (λ p. IsWellShaped config hold.side p (cells_changed config cells change)) kept_places
          (subst (λ side. IsWellShaped config side (places_changed cells places change) (cells_changed config cells change)) kept_side one.1)),
    ))

-- what is done
pub done-local : (config : Config) (cpu : ℕ) (command : Command) (words : List ℕ) (hold : Hold) (change : Change)
    → holds_change hold.cells change ≡ true
    → ((cells : ℕ → Cell) (places : ℕ → CpuPlace) → IsWellShaped config hold.side places cells → Agrees cells hold.cells → places cpu ≡ hold.place
    → outcome (flat_state config cells) cpu (call_of command) ≡ Ok (done words change))
    → LocalStep config cpu command (ok words) hold (tables_changed hold change)
done-local config cpu command words hold change holds each =
    change-local config cpu command (ok words) hold change holds (λ cells places shaped agrees placed.
    let w : Whole config hold.side hold.cells = record { cells = cells; places = places; shaped = shaped; agrees = agrees } in
    let is = each cells places shaped agrees placed in
    let kept = done-keeps_shape config (record { cells = cells; side = hold.side; places = places }) cpu command words change shaped is in
    (done_applies (flat_state config cells) cpu command words change (sound w) is, kept.0, kept.1))

-- an end of a stretch that is chosen
pub reached-local : (config : Config) (cpu : ℕ) (command : Command) (stretch : Stretch) (top : ℕ) (hold : Hold)
    → holds_change hold.cells (reached_change stretch top) ≡ true
    → ((cells : ℕ → Cell) (places : ℕ → CpuPlace) → IsWellShaped config hold.side places cells → Agrees cells hold.cells → places cpu ≡ hold.place
    → (outcome (flat_state config cells) cpu (call_of command) ≡ Ok (Reaches stretch)) × IsReached (flat_state config cells) stretch top)
    → LocalStep config cpu command (ok (top ∷ [])) hold (tables_changed hold (reached_change stretch top))
reached-local config cpu command stretch top hold holds each =
    change-local config cpu command (ok (top ∷ [])) hold (reached_change stretch top) holds (λ cells places shaped agrees placed.
    let w : Whole config hold.side hold.cells = record { cells = cells; places = places; shaped = shaped; agrees = agrees } in
    let is = each cells places shaped agrees placed in
    let kept = reached-keeps_shape config (record { cells = cells; side = hold.side; places = places }) cpu command stretch top shaped is.0 is.1 in
    (reached_applies (flat_state config cells) cpu command stretch top (sound w) is.0 is.1, kept.0, kept.1))
