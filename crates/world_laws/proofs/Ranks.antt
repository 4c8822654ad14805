-- Ranks: along each wait what is waited for rises, from named granules by address over tables by level to data and
-- auxiliary granules.
use Rattle.std.proofs.Common.{◌≡◌, ℕ, suc, ◌+◌, ◌*◌, ◌%◌, ◌<◌, ◌≤◌, Bool, true, false, ◌||◌, ◌==◌, IsTrue, List, Option, Some, None, slice_get, ◌⊎◌, inl, inr, refl, sym, ap, ◌∙◌, subst, arith, eqb-true, ltb-true}
use Rattle.std.specs.Prelude.{Contains, nat_lt, not}
use Rattle.std.specs.List.{list_all}
use Rattle.std.proofs.lemmas.Bool.{false≢true, and_parts, not-true}
use Rattle.std.proofs.lemmas.List.Elements.{All-contains}
use Rattle.std.proofs.lemmas.List.Sums.{AllPass-from_list_all}
use Rattle.rmm_spec.specs.HistoryText.{Config}
use Rattle.rmm_spec.specs.declared.call.Call.{Call}
use Rattle.rmm_spec.specs.declared.call.Call.TheVariants as call
use Rattle.rmm_spec.specs.declared.entry.Entry.{Entry}
use Rattle.rmm_spec.specs.declared.entry.Entry.TheVariants.{Unassigned, Assigned, Table}
use Rattle.rmm_spec.specs.declared.tag.Tag.{Tag}
use Rattle.rmm_spec.specs.declared.tag.Tag.TheVariants as tag
use Rattle.rmm_spec.specs.State.{RecRecord}
use Rattle.rmm_spec.specs.Lookup.{is_granule}
use Rattle.rmm_spec.specs.Table.{TableRecord}
use Rattle.rmm_spec.specs.Rows.{Needed}
use Rattle.rmm_spec.specs.Step.Terms.{named}
use Rattle.rmm_spec.specs.Call.{call_of}
use Rattle.rmm_spec.specs.Cell.{Cell, Undelegated, Rd, Rec, RecAux, Data, Rtt, tag_of, is_data, is_aux, realms_of, recs_of, tables_of}
use Rattle.rmm_spec.specs.Sound.{has_aux}
use Rattle.rmm_spec.specs.Shape.{Side, CpuPlace, Outside, Inside, IsWellShaped}
use Rattle.rmm_spec.specs.Local.{HeldCell}
use Rattle.rmm_spec.specs.World.{World, IsShapedWorld, held_cells}
use Rattle.rmm_spec.specs.Locks.{needs, needs_outside, is_named, leads_to, names_part, depth, IsNextNamed, IsNextPart, IsRisingTake}
use Rattle.rmm_spec.specs.Waits.{IsRising, WaitsAt}
use Rattle.spec_lemmas.proofs.Members.{Contains-from_slice_get, passing_member, held_cell, cell_held}
use Rattle.world_laws.proofs.Locked.{IsLocked}
use Rattle.rmm_laws.proofs.Cells.{cell-table}

-- ---- what commands name is never a part

-- a granule that another one names as its part: a table, a page or an auxiliary granule
abbrev is_part_tag : Tag → Bool
is_part_tag tag.RecAux = true
is_part_tag tag.Data = true
is_part_tag tag.Rtt = true
is_part_tag _ = false

abbrev AreWholes : List Needed → Type 0
AreWholes names = list_all (λ (n : Needed). not (is_part_tag n.tag)) names ≡ true

AreWholes-named : (c : Call) → AreWholes (named c)
unfolding named
AreWholes-named (call.GranuleDelegate granule) = refl
AreWholes-named _ = refl

AreWholes-learnt : (rd : ℕ) (c : Call) → AreWholes (needs_outside (Some rd) c)
unfolding named
AreWholes-learnt rd (call.RecEnter rec) = refl
AreWholes-learnt rd c = AreWholes-named c

AreWholes-needs : (place : CpuPlace) (learnt : Option ℕ) (c : Call) → AreWholes (needs place learnt c)
AreWholes-needs Outside None c = AreWholes-named c
AreWholes-needs Outside (Some rd) c = AreWholes-learnt rd c
AreWholes-needs (Inside rec rd) learnt c = refl

-- a granule that is held and named has the tag that is needed there, and is no part
named-no_part : (config : Config) (names : List Needed) (held : List HeldCell) (wanted : ℕ) (h : HeldCell) → AreWholes names
    → IsRisingTake config names held wanted → Contains held h → is_named names h.granule ≡ true → is_part_tag (tag_of h.cell) ≡ false
named-no_part config names held wanted h wholes rising has is =
    let found = passing_member (λ (n : Needed). n.granule == h.granule) names is in
    let member = Contains-from_slice_get names found.0 found.1 found.2 in
    let needed_tag : tag_of h.cell ≡ found.1.tag = rising.tags h found.1 has member (eqb-true found.1.granule h.granule found.3) in
    let whole = All-contains (λ (n : Needed). not (is_part_tag n.tag) ≡ true) names found.1
    (AllPass-from_list_all (λ (n : Needed). not (is_part_tag n.tag)) names wholes) member in
    ap is_part_tag needed_tag ∙ not-true (is_part_tag found.1.tag) whole

-- ---- what a part is

-- a part of a cell, by kinds: a realm's root, a child table, a page, an auxiliary granule
pub data PartKind (cells : ℕ → Cell) (by : Cell) (part : ℕ) : Type 0 where
  root : (t : TableRecord) → cells part ≡ Rtt t → depth by ≡ 0 → t.place.level ≤ 3 → PartKind cells by part
  child : (t : TableRecord) → cells part ≡ Rtt t → depth by ≡ t.place.level → t.place.level ≤ 3 → PartKind cells by part
  page : cells part ≡ Data → PartKind cells by part
  aux : (rec : RecRecord) → cells part ≡ RecAux → by ≡ Rec rec → PartKind cells by part

is_data_cell : (c : Cell) → is_data c ≡ true → c ≡ Data
is_data_cell Data is = refl
is_data_cell _ is = absurd (false≢true is)

is_aux_cell : (c : Cell) → is_aux c ≡ true → c ≡ RecAux
is_aux_cell RecAux is = refl
is_aux_cell _ is = absurd (false≢true is)

-- a table's level is 3 at most
level_within : (config : Config) (side : Side) (places : ℕ → CpuPlace) (cells : ℕ → Cell) → IsWellShaped config side places cells
    → (g : ℕ) (t : TableRecord) → tables_of cells g ≡ Some t → t.place.level ≤ 3
level_within config side places cells shaped g t is = let placed = shaped.tables.placed g t is in placed.2.within.last

-- in a well-shaped whole, what a cell names as its part is one
part_kind : (config : Config) (side : Side) (places : ℕ → CpuPlace) (cells : ℕ → Cell) → IsWellShaped config side places cells
    → (g : ℕ) (by : Cell) (part : ℕ) → cells g ≡ by → names_part by part ≡ true → PartKind cells by part
part_kind config side places cells shaped g (Rd realm) part is names =
    let held = shaped.tables.roots g realm (ap (λ (c : Cell). realms_of (λ _. c) 0) is) in
    let at_part : tables_of cells part ≡ Some held.table = ap (tables_of cells) (sym (eqb-true realm.root part names)) ∙ held.is_held in
    root held.table (cell-table (cells part) held.table at_part) refl (level_within config side places cells shaped part held.table at_part)
part_kind config side places cells shaped g (Rec rec) part is names =
    by_aux (rec.aux0 == part) refl names
  where
    of_rec : recs_of cells g ≡ Some rec
    of_rec = ap (λ (c : Cell). recs_of (λ _. c) 0) is

    by_aux : (b : Bool) → (rec.aux0 == part) ≡ b → (b || (rec.aux1 == part)) ≡ true → PartKind cells (Rec rec) part
    by_aux true is0 named_it =
        aux rec (is_aux_cell (cells part) (ap (λ x. is_aux (cells x)) (sym (eqb-true rec.aux0 part is0)) ∙ shaped.recs.aux0 g rec of_rec)) refl
    by_aux false is0 named_it =
        aux rec (is_aux_cell (cells part) (ap (λ x. is_aux (cells x)) (sym (eqb-true rec.aux1 part named_it)) ∙ shaped.recs.aux1 g rec of_rec)) refl
part_kind config side places cells shaped g (Rtt table) part is names =
    let found = passing_member (leads_to part) table.entries names in by_entry found.0 found.1 found.2 found.3
  where
    of_table : tables_of cells g ≡ Some table
    of_table = ap (λ (c : Cell). tables_of (λ _. c) 0) is

    by_entry : (i : ℕ) (e : Entry) → slice_get table.entries i ≡ Some e → leads_to part e ≡ true → PartKind cells (Rtt table) part
    by_entry i (Table below) at leads =
        let held = shaped.tables.links g i below table of_table at in
        let at_part : tables_of cells part ≡ Some held.table = ap (tables_of cells) (sym (eqb-true below part leads)) ∙ held.is_held in
        child held.table (cell-table (cells part) held.table at_part) (sym held.is_level)
        (level_within config side places cells shaped part held.table at_part)
    by_entry i (Assigned ripas granule) at leads =
        page (is_data_cell (cells part)
        (ap (λ x. is_data (cells x)) (sym (eqb-true granule part leads)) ∙ shaped.data_granules.named g i granule table ripas of_table at))
    by_entry i (Unassigned ripas) at leads = absurd (false≢true leads)
    by_entry i _ at leads = absurd (false≢true leads)
part_kind config side places cells shaped g Undelegated part is names = absurd (false≢true names)
part_kind config side places cells shaped g _ part is names = absurd (false≢true names)

-- ---- ranks

-- how far down a part is
abbrev pub part_rank : Cell → ℕ
part_rank (Rtt t) = t.place.level
part_rank _ = 4

abbrev rank_by : {A B : Type 0} → ℕ → Cell → ℕ → A ⊎ B → ℕ
rank_by granules cell wanted (inl next_named) = wanted
rank_by granules cell wanted (inr next_part) = granules * 4096 + part_rank cell

-- how high what a CPU waits for stands
pub rank : (w : World) (cpu granule : ℕ) → IsRising w cpu granule → ℕ
rank w cpu granule waits = rank_by w.config.granules (w.cells granule) granule waits.rising.upwards

granule_below : (granules address : ℕ) → IsTrue (is_granule granules address) → address < granules * 4096
unfolding is_granule
granule_below granules address is =
    ltb-true address (granules * 4096) (and_parts (address % 4096 == 0) (nat_lt address (granules * 4096)) is).1

-- a part's tag is that of a part
part_tag : (cells : ℕ → Cell) (by : Cell) (part : ℕ) → PartKind cells by part → is_part_tag (tag_of (cells part)) ≡ true
part_tag cells by part (root t e top within) = ap (λ c. is_part_tag (tag_of c)) e
part_tag cells by part (child t e below within) = ap (λ c. is_part_tag (tag_of c)) e
part_tag cells by part (page e) = ap (λ c. is_part_tag (tag_of c)) e
part_tag cells by part (aux rec e is_rec) = ap (λ c. is_part_tag (tag_of c)) e

-- a part's rank is 4 at most
part_rank-le : (cells : ℕ → Cell) (by : Cell) (part : ℕ) → PartKind cells by part → part_rank (cells part) ≤ 4
part_rank-le cells by part (root t e top within) = let is : part_rank (cells part) ≡ t.place.level = ap part_rank e in omega arith
part_rank-le cells by part (child t e below within) = let is : part_rank (cells part) ≡ t.place.level = ap part_rank e in omega arith
part_rank-le cells by part (page e) = let is : part_rank (cells part) ≡ 4 = ap part_rank e in omega arith
part_rank-le cells by part (aux rec e is_rec) = let is : part_rank (cells part) ≡ 4 = ap part_rank e in omega arith

-- what a held cell names is a part in the world
held_kind : (w : World) → IsShapedWorld w → (cpu part : ℕ) (by : HeldCell) → Contains (held_cells w cpu) by → IsTrue (names_part by.cell part)
    → PartKind w.cells by.cell part
held_kind w shaped cpu part by has names =
    let held = held_cell w.cells (w.taken cpu) by has in
    part_kind w.config w.side w.place w.cells shaped by.granule by.cell part (sym held.1) names

-- a table that another CPU holds ranks below the part that this one waits for
table_below : (w : World) (part next : ℕ) (by : Cell) (t : TableRecord) → w.cells part ≡ Rtt t → t.place.level ≤ 3
    → depth (w.cells part) ≤ depth by → PartKind w.cells by next → part_rank (w.cells part) < part_rank (w.cells next)
table_below w part next by t e within deep (root u f top within_u) =
    let d : depth (w.cells part) ≡ suc t.place.level = ap depth e in absurd (omega arith)
table_below w part next by t e within deep (child u f below within_u) =
    let d : depth (w.cells part) ≡ suc t.place.level = ap depth e in
    let here : part_rank (w.cells part) ≡ t.place.level = ap part_rank e in
    let there : part_rank (w.cells next) ≡ u.place.level = ap part_rank f in
    omega arith
table_below w part next by t e within deep (page f) =
    let here : part_rank (w.cells part) ≡ t.place.level = ap part_rank e in
    let there : part_rank (w.cells next) ≡ 4 = ap part_rank f in
    omega arith
table_below w part next by t e within deep (aux rec f is_rec) =
    let d : depth (w.cells part) ≡ suc t.place.level = ap depth e in
    let top : depth by ≡ 0 = ap depth is_rec in
    absurd (omega arith)

-- an auxiliary granule that one REC has is held by nobody but that REC's holder, if that CPU waits at a rising take
aux_held_by_one : (w : World) → IsShapedWorld w → IsLocked w → (cpu other part next : ℕ) (names : List Needed) → AreWholes names
    → (by : HeldCell) → Contains (held_cells w cpu) by → (rec : RecRecord) → by.cell ≡ Rec rec → IsTrue (names_part by.cell part)
    → w.cells part ≡ RecAux → Contains (w.taken other) part → IsRisingTake w.config names (held_cells w other) next → cpu ≡ other
aux_held_by_one w shaped locked cpu other part next names wholes by has_by rec is_rec names_by e holds rising =
    by_named (is_named names part) refl
  where
    h : HeldCell
    h = record { granule = part; cell = w.cells part }

    has : Contains (held_cells w other) (record { granule = part; cell = w.cells part })
    has = cell_held w.cells (w.taken other) part holds

    same_rec : (r : HeldCell) (it : RecRecord) → Contains (held_cells w other) r → r.cell ≡ Rec it → IsTrue (names_part (Rec it) part) → cpu ≡ other
    same_rec r it has_r is_it names_r =
        let mine = held_cell w.cells (w.taken cpu) by has_by in
        let theirs = held_cell w.cells (w.taken other) r has_r in
        let my_rec : recs_of w.cells by.granule ≡ Some rec = ap (λ (c : Cell). recs_of (λ _. c) 0) (sym mine.1 ∙ is_rec) in
        let their_rec : recs_of w.cells r.granule ≡ Some it = ap (λ (c : Cell). recs_of (λ _. c) 0) (sym theirs.1 ∙ is_it) in
        let my_name : names_part (Rec rec) part ≡ true = ap (λ c. names_part c part) (sym is_rec) ∙ names_by in
        let same : by.granule ≡ r.granule =
        shaped.recs.apart by.granule r.granule part (ap (has_aux part) my_rec ∙ my_name) (ap (has_aux part) their_rec ∙ names_r) in
        locked.one cpu other by.granule mine.0 (subst (Contains (w.taken other)) (sym same) theirs.0)

    by_stray : (0 < depth (w.cells part))
        ⊎ ((r : HeldCell) × (it : RecRecord) × Contains (held_cells w other) r × (r.cell ≡ Rec it) × IsTrue (names_part (Rec it) part)) → cpu ≡ other
    by_stray (inl table) = let none : depth (w.cells part) ≡ 0 = ap depth e in absurd (omega arith)
    by_stray (inr of) = same_rec of.0 of.1 of.2 of.3 of.4

    by_named : (b : Bool) → is_named names part ≡ b → cpu ≡ other
    by_named true is =
        let whole = named-no_part w.config names (held_cells w other) next (record { granule = part; cell = w.cells part }) wholes rising has is in
        absurd (false≢true (sym whole ∙ ap (λ c. is_part_tag (tag_of c)) e))
    by_named false is = by_stray (rising.strays (record { granule = part; cell = w.cells part }) has is).is_part

-- a CPU holds nothing that it waits for
holds_not : (w : World) (cpu wanted : ℕ) (names : List Needed) → IsRisingTake w.config names (held_cells w cpu) wanted
    → Contains (w.taken cpu) wanted → ⊥
holds_not w cpu wanted names rising holds =
    rising.is_new (record { granule = wanted; cell = w.cells wanted }) (cell_held w.cells (w.taken cpu) wanted holds) refl

-- what one CPU waits for, and another holds that waits too, ranks below what that one waits for
rises : (w : World) → IsShapedWorld w → IsLocked w → (cpu other wanted next : ℕ) (names others : List Needed) → AreWholes others
    → IsRisingTake w.config names (held_cells w cpu) wanted → IsRisingTake w.config others (held_cells w other) next
    → Contains (w.taken other) wanted
    → (here : IsNextNamed names (held_cells w cpu) wanted ⊎ IsNextPart (held_cells w cpu) wanted)
    → (there : IsNextNamed others (held_cells w other) next ⊎ IsNextPart (held_cells w other) next)
    → rank_by w.config.granules (w.cells wanted) wanted here < rank_by w.config.granules (w.cells next) next there
rises w shaped locked cpu other wanted next names others wholes rising rising_there holds (inl here) (inl there) =
    there.above (record { granule = wanted; cell = w.cells wanted }) (cell_held w.cells (w.taken other) wanted holds)
rises w shaped locked cpu other wanted next names others wholes rising rising_there holds (inl here) (inr there) =
    let below : wanted < w.config.granules * 4096 = granule_below w.config.granules wanted rising.is_lock in omega arith
rises w shaped locked cpu other wanted next names others wholes rising rising_there holds (inr here) (inl there) =
    let h : HeldCell = record { granule = wanted; cell = w.cells wanted } in
    let has = cell_held w.cells (w.taken other) wanted holds in
    let whole = named-no_part w.config others (held_cells w other) next h wholes rising_there has (there.all_named h has) in
    let part = part_tag w.cells here.by.cell wanted (held_kind w shaped cpu wanted here.by here.is_held here.is_part) in
    absurd (false≢true (sym whole ∙ part))
rises w shaped locked cpu other wanted next names others wholes rising rising_there holds (inr here) (inr there) =
    by_kind (held_kind w shaped cpu wanted here.by here.is_held here.is_part)
  where
    has : Contains (held_cells w other) (record { granule = wanted; cell = w.cells wanted })
    has = cell_held w.cells (w.taken other) wanted holds

    deeper : (t : TableRecord) → w.cells wanted ≡ Rtt t → t.place.level ≤ 3
        → w.config.granules * 4096 + part_rank (w.cells wanted) < w.config.granules * 4096 + part_rank (w.cells next)
    deeper t e within =
        let up : part_rank (w.cells wanted) < part_rank (w.cells next) =
        table_below w wanted next there.by.cell t e within (there.deepest (record { granule = wanted; cell = w.cells wanted }) has)
        (held_kind w shaped other next there.by there.is_held there.is_part) in
        omega arith

    by_kind : PartKind w.cells here.by.cell wanted
        → w.config.granules * 4096 + part_rank (w.cells wanted) < w.config.granules * 4096 + part_rank (w.cells next)
    by_kind (root t e top within) = deeper t e within
    by_kind (child t e below within) = deeper t e within
    by_kind (page e) =
        absurd (false≢true (sym (rising_there.no_data (record { granule = wanted; cell = w.cells wanted }) has) ∙ ap is_data e))
    by_kind (aux rec e is_rec) =
        let same =
        aux_held_by_one w shaped locked cpu other wanted next others wholes here.by here.is_held rec is_rec here.is_part e holds rising_there in
        absurd (holds_not w cpu wanted names rising (subst (λ k. Contains (w.taken k) wanted) (sym same) holds))

-- along each wait the rank rises
pub rank-rises : (w : World) → IsShapedWorld w → IsLocked w → (cpu other wanted next : ℕ) (waits : WaitsAt w cpu wanted other)
    (there : IsRising w other next) → rank w cpu wanted waits.rising < rank w other next there
unfolding rank
rank-rises w shaped locked cpu other wanted next waits there =
    rises w shaped locked cpu other wanted next
    (needs (w.place cpu) waits.rising.deciding.learnt (call_of waits.rising.deciding.command))
    (needs (w.place other) there.deciding.learnt (call_of there.deciding.command))
    (AreWholes-needs (w.place other) there.deciding.learnt (call_of there.deciding.command))
    waits.rising.rising there.rising waits.is_held waits.rising.rising.upwards there.rising.upwards

rank_by-bounded : (w : World) → IsShapedWorld w → (cpu wanted : ℕ) (names : List Needed) → IsRisingTake w.config names (held_cells w cpu) wanted
    → (here : IsNextNamed names (held_cells w cpu) wanted ⊎ IsNextPart (held_cells w cpu) wanted)
    → rank_by w.config.granules (w.cells wanted) wanted here < w.config.granules * 4096 + 5
rank_by-bounded w shaped cpu wanted names rising (inl here) =
    let below : wanted < w.config.granules * 4096 = granule_below w.config.granules wanted rising.is_lock in omega arith
rank_by-bounded w shaped cpu wanted names rising (inr here) =
    let most : part_rank (w.cells wanted) ≤ 4 =
    part_rank-le w.cells here.by.cell wanted (held_kind w shaped cpu wanted here.by here.is_held here.is_part) in
    omega arith

-- and it is bounded
pub rank-bounded : (w : World) → IsShapedWorld w → (cpu wanted : ℕ) (waits : IsRising w cpu wanted)
    → rank w cpu wanted waits < w.config.granules * 4096 + 5
unfolding rank
rank-bounded w shaped cpu wanted waits =
    rank_by-bounded w shaped cpu wanted (needs (w.place cpu) waits.deciding.learnt (call_of waits.deciding.command)) waits.rising waits.rising.upwards
