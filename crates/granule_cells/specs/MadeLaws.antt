-- What is made is the change that laws speak of, where the table is found that a whole has at that place; and it is made of the granules
-- that are changed alone.
use Rattle.std.proofs.Common.{◌≡◌, ℕ, ◌%◌, ◌==◌, false, if◌then◌else◌, List, [], ◌∷◌, ◌++◌, Option, Some, None, refl, ap, ◌∙◌}
use Rattle.std.specs.Prelude.{slice_set}
use Rattle.std.specs.List.{AllByRecursion}
use Rattle.rmm_spec.specs.declared.change.RealmChange.{RealmChange}
use Rattle.rmm_spec.specs.declared.change.RealmUpdate.TheVariants.{RecCounted}
use Rattle.rmm_spec.specs.declared.change.RecChange.{RecChange}
use Rattle.rmm_spec.specs.declared.change.TagChange.{TagChange}
use Rattle.rmm_spec.specs.declared.entry.Entry.{Entry}
use Rattle.rmm_spec.specs.declared.entry.Entry.TheVariants as entry_kind
use Rattle.rmm_spec.specs.declared.change.Change.{Change}
use Rattle.rmm_spec.specs.declared.change.Change.TheVariants.{Unchanged, Retagged, RealmMade, RealmDestroyed, RecMade, RecDestroyed, RecordsChanged, TableMade, TableDestroyed, EntriesChanged}
use Rattle.rmm_spec.specs.Cell.{Cell, Delegated, Rd, Rec, RecAux, Rtt, put, tables_of}
use Rattle.rmm_spec.specs.Change.{new_realm, new_rec}
use Rattle.rmm_spec.specs.Flat.{table_granule}
use Rattle.rmm_spec.specs.HistoryText.{Config}
use Rattle.spec_lemmas.proofs.Maps.{put-elsewhere}
use Rattle.rmm_laws.specs.Whole.{cell_with_entries, cell_with_realm, cell_with_rec, cell_with_tag, cells_changed, cells_with_entries, cells_with_realm_change, cells_with_rec_change, cells_with_table, cells_with_tag_change, changed_at, copied_table, entries_changed, root_table, width_in}
use Rattle.granule_cells.specs.Changes.{cells_made, granules_changed, page_put, realm_changed, rec_changed, table_at, table_found}

pub cells_made-changed : (config : Config) (cells : ℕ → Cell) (change : Change)
    → cells_made cells (table_found (table_granule config.granules (tables_of cells)) change) change ≡ cells_changed config cells change
unfolding cells_made cells_changed
cells_made-changed config cells Unchanged = refl
cells_made-changed config cells (Retagged change) = refl
cells_made-changed config cells (RealmMade rd root width level vmid algo) = refl
cells_made-changed config cells (RealmDestroyed rd root) = refl
cells_made-changed config cells (RecMade rd rec mpidr flags aux0 aux1) = refl
cells_made-changed config cells (RecDestroyed rec aux0 aux1) = refl
cells_made-changed config cells (RecordsChanged realm rec) = refl
cells_made-changed config cells (TableMade rd level number rtt entry) = refl
cells_made-changed config cells (TableDestroyed rd level number rtt entry) = refl
cells_made-changed config cells (EntriesChanged rd level entries page realm rec) = refl

-- ---- elsewhere nothing changes

-- what holds of the elements of two lists in one holds of those of each
pub all-parts : (P : ℕ → Type 0) (xs ys : List ℕ) → AllByRecursion P (xs ++ ys) → AllByRecursion P xs × AllByRecursion P ys
all-parts P [] ys all = (tt, all)
all-parts P (x ∷ xs) ys all = let rest = all-parts P xs ys all.1 in ((all.0, rest.0), rest.1)

-- the granule is none of those
abbrev pub IsApart : ℕ → List ℕ → Type 0
IsApart g gs = AllByRecursion (λ k. (g == k) ≡ false) gs

tag-apart : (cells : ℕ → Cell) (o : Option TagChange) (g : ℕ) → IsApart g (page_put o) → cells_with_tag_change cells o g ≡ cells g
tag-apart cells None g apart = refl
tag-apart cells (Some change) g apart = put-elsewhere cells change.granule (cell_with_tag change.tag (cells change.granule)) g apart.0

realm-apart : (cells : ℕ → Cell) (o : Option RealmChange) (g : ℕ) → IsApart g (realm_changed o) → cells_with_realm_change cells o g ≡ cells g
realm-apart cells None g apart = refl
realm-apart cells (Some change) g apart = put-elsewhere cells change.rd (cell_with_realm change.update (cells change.rd)) g apart.0

rec-apart : (cells : ℕ → Cell) (o : Option RecChange) (g : ℕ) → IsApart g (rec_changed o) → cells_with_rec_change cells o g ≡ cells g
rec-apart cells None g apart = refl
rec-apart cells (Some change) g apart = put-elsewhere cells change.rec (cell_with_rec change.update (cells change.rec)) g apart.0

entries-apart : (cells : ℕ → Cell) (change : List Entry → List Entry) (at : Option ℕ) (g : ℕ) → IsApart g (table_at at)
    → cells_with_entries cells change at g ≡ cells g
entries-apart cells change None g apart = refl
entries-apart cells change (Some granule) g apart = put-elsewhere cells granule (cell_with_entries change (cells granule)) g apart.0

table-apart : (cells : ℕ → Cell) (rd level number rtt : ℕ) (entry : Entry) (at : Option ℕ) (g : ℕ) → IsApart g (table_at at) → (g == rtt) ≡ false
    → cells_with_table cells rd level number rtt entry at g ≡ cells g
table-apart cells rd level number rtt entry None g apart other = refl
table-apart cells rd level number rtt entry (Some above) g apart other =
    let linked : List Entry → List Entry = λ entries. slice_set entries (number % 512) (entry_kind.Table rtt) in
    put-elsewhere (changed_at cells above (cell_with_entries linked)) rtt (Rtt (copied_table rd level number (width_in (cells above)) entry)) g other
    ∙ put-elsewhere cells above (cell_with_entries linked (cells above)) g apart.0

-- a granule that isn't changed has the cell that it had
pub cells_made-apart : (cells : ℕ → Cell) (at : Option ℕ) (change : Change) (g : ℕ) → IsApart g (granules_changed at change)
    → cells_made cells at change g ≡ cells g
unfolding cells_made
cells_made-apart cells at Unchanged g apart = refl
cells_made-apart cells at (Retagged change) g apart = tag-apart cells (Some change) g apart
cells_made-apart cells at (RealmMade rd root width level vmid algo) g apart =
    put-elsewhere (put cells rd (Rd (new_realm root width level vmid algo))) root (Rtt (root_table rd width level)) g apart.1.0
    ∙ put-elsewhere cells rd (Rd (new_realm root width level vmid algo)) g apart.0
cells_made-apart cells at (RealmDestroyed rd root) g apart =
    put-elsewhere (put cells rd Delegated) root Delegated g apart.1.0 ∙ put-elsewhere cells rd Delegated g apart.0
cells_made-apart cells at (RecMade rd rec mpidr flags aux0 aux1) g apart =
    let one : ℕ → Cell = put cells rec (Rec (new_rec rd mpidr flags aux0 aux1)) in
    let three : ℕ → Cell = put (put one aux0 RecAux) aux1 RecAux in
    put-elsewhere three rd (cell_with_realm (RecCounted mpidr flags) (three rd)) g apart.1.1.1.0
    ∙ put-elsewhere (put one aux0 RecAux) aux1 RecAux g apart.1.1.0
    ∙ put-elsewhere one aux0 RecAux g apart.1.0
    ∙ put-elsewhere cells rec (Rec (new_rec rd mpidr flags aux0 aux1)) g apart.0
cells_made-apart cells at (RecDestroyed rec aux0 aux1) g apart =
    put-elsewhere (put (put cells rec Delegated) aux0 Delegated) aux1 Delegated g apart.1.1.0
    ∙ put-elsewhere (put cells rec Delegated) aux0 Delegated g apart.1.0
    ∙ put-elsewhere cells rec Delegated g apart.0
cells_made-apart cells at (RecordsChanged realm rec) g apart =
    let parts = all-parts (λ k. (g == k) ≡ false) (realm_changed realm) (rec_changed rec) apart in
    rec-apart (cells_with_realm_change cells realm) rec g parts.1 ∙ realm-apart cells realm g parts.0
cells_made-apart cells at (TableMade rd level number rtt entry) g apart =
    let parts = all-parts (λ k. (g == k) ≡ false) (table_at at) (rtt ∷ []) apart in
    table-apart cells rd level number rtt entry at g parts.0 parts.1.0
cells_made-apart cells at (TableDestroyed rd level number rtt entry) g apart =
    let parts = all-parts (λ k. (g == k) ≡ false) (table_at at) (rtt ∷ []) apart in
    let freed : List Entry → List Entry = λ entries. slice_set entries (number % 512) entry in
    put-elsewhere (cells_with_entries cells freed at) rtt Delegated g parts.1.0 ∙ entries-apart cells freed at g parts.0
cells_made-apart cells at (EntriesChanged rd level entries page realm rec) g apart =
    let of_page = all-parts (λ k. (g == k) ≡ false) (page_put page) (realm_changed realm ++ (rec_changed rec ++ table_at at)) apart in
    let of_realm = all-parts (λ k. (g == k) ≡ false) (realm_changed realm) (rec_changed rec ++ table_at at) of_page.1 in
    let of_rec = all-parts (λ k. (g == k) ≡ false) (rec_changed rec) (table_at at) of_realm.1 in
    let first : ℕ → Cell = cells_with_tag_change cells page in
    let second : ℕ → Cell = cells_with_realm_change first realm in
    entries-apart (cells_with_rec_change second rec) (entries_changed entries) at g of_rec.1
    ∙ rec-apart second rec g of_rec.0 ∙ realm-apart first realm g of_realm.0 ∙ tag-apart cells page g of_page.0

-- ---- nothing else is looked at

-- two maps have the same cell at each granule of a kind
abbrev pub AgreeOn : (ℕ → Type 0) → (ℕ → Cell) → (ℕ → Cell) → Type 0
AgreeOn P cells other = (g : ℕ) → P g → cells g ≡ other g

-- also once one cell is put in, or changed where it is of the kind
put-agrees : (P : ℕ → Type 0) (cells other : ℕ → Cell) (granule : ℕ) (c : Cell) → AgreeOn P cells other
    → AgreeOn P (put cells granule c) (put other granule c)
put-agrees P cells other granule c agree = λ g has. ap (λ (x : Cell). if g == granule then c else x) (agree g has)

changed-agrees : (P : ℕ → Type 0) (cells other : ℕ → Cell) (granule : ℕ) (change : Cell → Cell) → P granule → AgreeOn P cells other
    → AgreeOn P (changed_at cells granule change) (changed_at other granule change)
changed-agrees P cells other granule change has agree = λ g there i. if g == granule then change (agree granule has i) else agree g there i

tag-agrees : (P : ℕ → Type 0) (cells other : ℕ → Cell) (o : Option TagChange) → AllByRecursion P (page_put o) → AgreeOn P cells other
    → AgreeOn P (cells_with_tag_change cells o) (cells_with_tag_change other o)
tag-agrees P cells other None has agree = agree
tag-agrees P cells other (Some change) has agree = changed-agrees P cells other change.granule (cell_with_tag change.tag) has.0 agree

realm-agrees : (P : ℕ → Type 0) (cells other : ℕ → Cell) (o : Option RealmChange) → AllByRecursion P (realm_changed o) → AgreeOn P cells other
    → AgreeOn P (cells_with_realm_change cells o) (cells_with_realm_change other o)
realm-agrees P cells other None has agree = agree
realm-agrees P cells other (Some change) has agree = changed-agrees P cells other change.rd (cell_with_realm change.update) has.0 agree

rec-agrees : (P : ℕ → Type 0) (cells other : ℕ → Cell) (o : Option RecChange) → AllByRecursion P (rec_changed o) → AgreeOn P cells other
    → AgreeOn P (cells_with_rec_change cells o) (cells_with_rec_change other o)
rec-agrees P cells other None has agree = agree
rec-agrees P cells other (Some change) has agree = changed-agrees P cells other change.rec (cell_with_rec change.update) has.0 agree

entries-agree : (P : ℕ → Type 0) (cells other : ℕ → Cell) (change : List Entry → List Entry) (at : Option ℕ) → AllByRecursion P (table_at at)
    → AgreeOn P cells other → AgreeOn P (cells_with_entries cells change at) (cells_with_entries other change at)
entries-agree P cells other change None has agree = agree
entries-agree P cells other change (Some granule) has agree = changed-agrees P cells other granule (cell_with_entries change) has.0 agree

table-agrees : (P : ℕ → Type 0) (cells other : ℕ → Cell) (rd level number rtt : ℕ) (entry : Entry) (at : Option ℕ) → AllByRecursion P (table_at at)
    → AgreeOn P cells other → AgreeOn P (cells_with_table cells rd level number rtt entry at) (cells_with_table other rd level number rtt entry at)
table-agrees P cells other rd level number rtt entry None has agree = agree
table-agrees P cells other rd level number rtt entry (Some above) has agree = λ g there i.
    if g == rtt then Rtt (copied_table rd level number (width_in (agree above has.0 i)) entry)
    else changed-agrees P cells other above (cell_with_entries (λ entries. slice_set entries (number % 512) (entry_kind.Table rtt)))
    has.0 agree g there i

-- where two maps agree at all granules of a kind, and those that are changed are of it, they agree there after the change
pub cells_made-agree : (P : ℕ → Type 0) (cells other : ℕ → Cell) (at : Option ℕ) (change : Change) → AllByRecursion P (granules_changed at change)
    → AgreeOn P cells other → AgreeOn P (cells_made cells at change) (cells_made other at change)
unfolding cells_made
cells_made-agree P cells other at Unchanged has agree = agree
cells_made-agree P cells other at (Retagged change) has agree = tag-agrees P cells other (Some change) has agree
cells_made-agree P cells other at (RealmMade rd root width level vmid algo) has agree =
    let made : Cell = Rd (new_realm root width level vmid algo) in
    put-agrees P (put cells rd made) (put other rd made) root (Rtt (root_table rd width level)) (put-agrees P cells other rd made agree)
cells_made-agree P cells other at (RealmDestroyed rd root) has agree =
    put-agrees P (put cells rd Delegated) (put other rd Delegated) root Delegated (put-agrees P cells other rd Delegated agree)
cells_made-agree P cells other at (RecMade rd rec mpidr flags aux0 aux1) has agree =
    let made : Cell = Rec (new_rec rd mpidr flags aux0 aux1) in
    let one : (ℕ → Cell) → ℕ → Cell = λ now. put now rec made in
    let two : (ℕ → Cell) → ℕ → Cell = λ now. put (one now) aux0 RecAux in
    let three : (ℕ → Cell) → ℕ → Cell = λ now. put (two now) aux1 RecAux in
    changed-agrees P (three cells) (three other) rd (cell_with_realm (RecCounted mpidr flags)) has.1.1.1.0
    (put-agrees P (two cells) (two other) aux1 RecAux (put-agrees P (one cells) (one other) aux0 RecAux (put-agrees P cells other rec made agree)))
cells_made-agree P cells other at (RecDestroyed rec aux0 aux1) has agree =
    let one : (ℕ → Cell) → ℕ → Cell = λ now. put now rec Delegated in
    let two : (ℕ → Cell) → ℕ → Cell = λ now. put (one now) aux0 Delegated in
    put-agrees P (two cells) (two other) aux1 Delegated
    (put-agrees P (one cells) (one other) aux0 Delegated (put-agrees P cells other rec Delegated agree))
cells_made-agree P cells other at (RecordsChanged realm rec) has agree =
    let parts = all-parts P (realm_changed realm) (rec_changed rec) has in
    rec-agrees P (cells_with_realm_change cells realm) (cells_with_realm_change other realm) rec parts.1
    (realm-agrees P cells other realm parts.0 agree)
cells_made-agree P cells other at (TableMade rd level number rtt entry) has agree =
    table-agrees P cells other rd level number rtt entry at (all-parts P (table_at at) (rtt ∷ []) has).0 agree
cells_made-agree P cells other at (TableDestroyed rd level number rtt entry) has agree =
    let freed : List Entry → List Entry = λ entries. slice_set entries (number % 512) entry in
    put-agrees P (cells_with_entries cells freed at) (cells_with_entries other freed at) rtt Delegated
    (entries-agree P cells other freed at (all-parts P (table_at at) (rtt ∷ []) has).0 agree)
cells_made-agree P cells other at (EntriesChanged rd level entries page realm rec) has agree =
    let of_page = all-parts P (page_put page) (realm_changed realm ++ (rec_changed rec ++ table_at at)) has in
    let of_realm = all-parts P (realm_changed realm) (rec_changed rec ++ table_at at) of_page.1 in
    let of_rec = all-parts P (rec_changed rec) (table_at at) of_realm.1 in
    let first : (ℕ → Cell) → ℕ → Cell = λ now. cells_with_tag_change now page in
    let second : (ℕ → Cell) → ℕ → Cell = λ now. cells_with_realm_change (first now) realm in
    let third : (ℕ → Cell) → ℕ → Cell = λ now. cells_with_rec_change (second now) rec in
    entries-agree P (third cells) (third other) (entries_changed entries) at of_rec.1
    (rec-agrees P (second cells) (second other) rec of_rec.0
    (realm-agrees P (first cells) (first other) realm of_realm.0 (tag-agrees P cells other page of_page.0 agree)))
