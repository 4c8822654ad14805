-- Cells that no shaped whole has: each case is refuted by the group of the shape that speaks of it.
use Rattle.command_core.proofs.Common.{◌&&◌, ◌*◌, ◌==◌, ◌||◌, ◌∙◌, ◌∷◌, ◌≡◌, Bool, ByHost, Call, Config, HeldCell, Hold, Inside, List, Needed, None, Option, Outside, Rd, RealmRecord, Rec, RecRecord, Rtt, Some, [], and_from, and_parts, ap, cell_in, class_of, eq-eqb, eqb-true, false, false≢true, has_wrong, inl, inr, is_granule, is_held, is_none, is_settled, is_some, is_unshaped, named, not, not-true, realm_in, refl, sym, tag_number, tag_of, true, way_taken, words_fit, ℕ}
use Rattle.std.proofs.Common.{◌⊎◌}
use Rattle.std.proofs.lemmas.Bool.{false_from_ne_true}
use Rattle.std.proofs.lemmas.Option.{same_Some}
use Rattle.rmm_spec.specs.declared.call.Call.TheVariants.{RealmDestroy, RecDestroy, RecEnter}
use Rattle.rmm_spec.specs.declared.tag.Tag.TheVariants as tag
use Rattle.rmm_spec.specs.Call.{Class, ByRealm, ByExit}
use Rattle.rmm_spec.specs.Table.{TableRecord, place_number}
use Rattle.rmm_spec.specs.Walk.{table_size}
use Rattle.rmm_spec.specs.Step.Terms.{needed}
use Rattle.rmm_spec.specs.Cell.{Cell, RecAux, is_aux, table_in, rec_in, realms_of, tables_of}
use Rattle.rmm_spec.specs.Shape.{CpuPlace, HoldsTable}
use Rattle.world_laws.proofs.Locals.{agrees-at}
use Rattle.spec_lemmas.proofs.Members.{each_of_two}
use Rattle.command_core.specs.Settled.{is_all_held, is_read_over, is_settled_outside, is_settled_inside}
use Rattle.world_laws.specs.Walking.{Way}
use Rattle.world_laws.specs.Misfits.{is_place, is_other_table, is_misfit_root}
use Rattle.world_laws.proofs.Misfits.{misfit-none}
use Rattle.command_core.specs.Walks.{way_inside}
use Rattle.command_core.specs.Unshaped.{is_other_aux, is_bad_aux, are_bad_auxes, has_bad_aux, can_learn, has_bad_owner, has_other_owner, is_misplaced, is_misfit_way, has_misfit_part, is_unshaped_outside}
use Rattle.command_core.proofs.Fronts.{wrong_tag}
use Rattle.command_core.proofs.Wholes.{Whole, whole_cell, tagged_granule, realm_cell, InsideCells, inside-cells}

or_cases : (b c : Bool) → (b || c) ≡ true → (b ≡ true) ⊎ (c ≡ true)
or_cases true c is = inl refl
or_cases false c is = inr is

-- a granule that holds something is one
no_granule : (config : Config) (cpu : ℕ) (hold : Hold) (w : Whole config cpu hold) (g : ℕ) → (tag_number (tag_of (w.cells g)) == 0) ≡ false
    → not (is_granule config.granules g) ≡ true → ⊥
no_granule config cpu hold w g tagged none =
    false≢true (sym (not-true (is_granule config.granules g) none) ∙ tagged_granule config cpu hold w g tagged)

-- ---- a realm's root

table_tag : (c : Cell) → is_some (table_in c) ≡ true → (tag_number (tag_of c) == 0) ≡ false
table_tag (Rtt table) is = refl
table_tag _ is = absurd (false≢true is)

-- the place of a realm's root
root-placed : (config : Config) (cpu : ℕ) (hold : Hold) (w : Whole config cpu hold) (rd : ℕ) (realm : RealmRecord) (t : TableRecord)
    → realms_of w.cells rd ≡ Some realm → tables_of w.cells realm.root ≡ Some t → is_place rd realm.start_level 0 realm.width t.place ≡ true
root-placed config cpu hold w rd realm t is_realm is_table =
    and_from (t.place.rd == rd && t.place.level == realm.start_level
    && t.place.base == 0 * table_size realm.start_level) (t.place.width == realm.width)
    (and_from (t.place.rd == rd && t.place.level == realm.start_level) (t.place.base == 0 * table_size realm.start_level)
    (and_from (t.place.rd == rd) (t.place.level == realm.start_level) (eq-eqb t.place.rd rd of_rd) (eq-eqb t.place.level realm.start_level of_level))
    (eq-eqb t.place.base (0 * table_size realm.start_level) base)) (eq-eqb t.place.width realm.width width)
  where
    root : HoldsTable (tables_of w.cells) realm.root rd realm.start_level 0
    root = w.shaped.tables.roots rd realm is_realm

    same : root.table ≡ t
    same = same_Some root.table t (sym root.is_held ∙ is_table)

    of_rd : t.place.rd ≡ rd
    of_rd = ap (λ (x : TableRecord). x.place.rd) (sym same) ∙ root.is_realm

    of_level : t.place.level ≡ realm.start_level
    of_level = ap (λ (x : TableRecord). x.place.level) (sym same) ∙ root.is_level

    base : t.place.base ≡ 0 * table_size realm.start_level
    base =
        let own = w.shaped.tables.placed realm.root t is_table in
        let number : place_number t.place ≡ 0 = ap (λ (x : TableRecord). place_number x.place) (sym same) ∙ root.is_number in
        own.2.base ∙ (ap (λ n. n * table_size t.place.level) number ∙ ap (λ l. 0 * table_size l) of_level)

    width : t.place.width ≡ realm.width
    width =
        let own = w.shaped.tables.placed realm.root t is_table in
        let one : own.0 ≡ realm = same_Some own.0 realm (sym own.1 ∙ (ap (realms_of w.cells) of_rd ∙ is_realm)) in
        own.2.width ∙ ap (λ (r : RealmRecord). r.width) one

root-none : (config : Config) (cpu : ℕ) (hold : Hold) (w : Whole config cpu hold) (rd : ℕ) (o : Option Cell) → cell_in rd hold.cells ≡ o
    → is_misfit_root config hold.cells rd o ≡ true → ⊥
root-none config cpu hold w rd (Some (Rd realm)) found bad =
    by (or_cases (not (is_granule config.granules realm.root))
    (is_other_table rd realm.start_level 0 realm.width (cell_in realm.root hold.cells)) bad)
  where
    is_realm : realms_of w.cells rd ≡ Some realm
    is_realm = ap realm_in (whole_cell config cpu hold w rd (Rd realm) found)

    there : is_some (table_in (w.cells realm.root)) ≡ true
    there = ap (λ (o : Option TableRecord). is_some o) (w.shaped.tables.roots rd realm is_realm).is_held

    no_table : (c : Cell) → cell_in realm.root hold.cells ≡ Some c → is_some (table_in c) ≡ true
    no_table c root = ap (λ (x : Cell). is_some (table_in x)) (sym (whole_cell config cpu hold w realm.root c root)) ∙ there

    other : (p : Option Cell) → cell_in realm.root hold.cells ≡ p → is_other_table rd realm.start_level 0 realm.width p ≡ true → ⊥
    other None root is = false≢true is
    other (Some (Rtt t)) root is =
        false≢true (sym (not-true (is_place rd realm.start_level 0 realm.width t.place) is)
        ∙ root-placed config cpu hold w rd realm t is_realm (ap table_in (whole_cell config cpu hold w realm.root (Rtt t) root)))
    other (Some c) root is = false≢true (no_table c root)

    by : (not (is_granule config.granules realm.root) ≡ true)
        ⊎ (is_other_table rd realm.start_level 0 realm.width (cell_in realm.root hold.cells) ≡ true) → ⊥
    by (inl none) = no_granule config cpu hold w realm.root (table_tag (w.cells realm.root) there) none
    by (inr is) = other (cell_in realm.root hold.cells) refl is
root-none config cpu hold w rd _ found bad = false≢true bad

-- ---- a REC's two others

aux_tag : (c : Cell) → is_aux c ≡ true → (tag_number (tag_of c) == 0) ≡ false
aux_tag RecAux is = refl
aux_tag _ is = absurd (false≢true is)

bad_aux-none : (config : Config) (cpu : ℕ) (hold : Hold) (w : Whole config cpu hold) (aux : ℕ)
    → is_aux (w.cells aux) ≡ true → is_bad_aux config aux hold.cells ≡ true → ⊥
bad_aux-none config cpu hold w aux is_one bad = by (or_cases (not (is_granule config.granules aux)) (is_other_aux (cell_in aux hold.cells)) bad)
  where
    other : (p : Option Cell) → cell_in aux hold.cells ≡ p → is_other_aux p ≡ true → ⊥
    other None found is = false≢true is
    other (Some c) found is =
        false≢true (sym (not-true (is_aux c) is) ∙ (ap is_aux (sym (whole_cell config cpu hold w aux c found)) ∙ is_one))

    by : (not (is_granule config.granules aux) ≡ true) ⊎ (is_other_aux (cell_in aux hold.cells) ≡ true) → ⊥
    by (inl none) = no_granule config cpu hold w aux (aux_tag (w.cells aux) is_one) none
    by (inr is) = other (cell_in aux hold.cells) refl is

auxes-none : (config : Config) (cpu : ℕ) (hold : Hold) (w : Whole config cpu hold) (rec : ℕ) (o : Option Cell) → cell_in rec hold.cells ≡ o
    → has_bad_aux config o hold.cells ≡ true → ⊥
auxes-none config cpu hold w rec (Some (Rec it)) found bad =
    by (or_cases (is_bad_aux config it.aux0 hold.cells) (is_held it.aux0 hold.cells && is_bad_aux config it.aux1 hold.cells)
    (and_parts (is_none it.cpu) (are_bad_auxes config it hold.cells) bad).1)
  where
    is_rec : rec_in (w.cells rec) ≡ Some it
    is_rec = ap rec_in (whole_cell config cpu hold w rec (Rec it) found)

    by : (is_bad_aux config it.aux0 hold.cells ≡ true)
        ⊎ ((is_held it.aux0 hold.cells && is_bad_aux config it.aux1 hold.cells) ≡ true) → ⊥
    by (inl is) = bad_aux-none config cpu hold w it.aux0 (w.shaped.recs.aux0 rec it is_rec) is
    by (inr is) = bad_aux-none config cpu hold w it.aux1 (w.shaped.recs.aux1 rec it is_rec)
        (and_parts (is_held it.aux0 hold.cells) (is_bad_aux config it.aux1 hold.cells) is).1
auxes-none config cpu hold w rec _ found bad = false≢true bad

-- ---- a REC's realm

owner-none : (config : Config) (cpu : ℕ) (hold : Hold) (w : Whole config cpu hold) (rec : ℕ) (o : Option Cell) → cell_in rec hold.cells ≡ o
    → has_bad_owner config rec o ≡ true → ⊥
owner-none config cpu hold w rec (Some (Rec it)) found bad =
    let cell = whole_cell config cpu hold w rec (Rec it) found in
    let realm = realm_cell (w.cells it.owner) (w.shaped.recs.owned rec it (ap rec_in cell)) in
    let granule = tagged_granule config cpu hold w it.owner (ap (λ (c : Cell). tag_number (tag_of c) == 0) realm.1) in
    let apart : (it.owner == rec) ≡ false = false_from_ne_true (it.owner == rec) (λ same.
    false≢true (ap (λ (c : Cell). tag_number (tag_of c) == 2) (sym cell ∙ (sym (ap w.cells (eqb-true it.owner rec same)) ∙ realm.1)))) in
    false≢true (sym (not-true (can_learn config rec it.owner) bad)
    ∙ and_from (is_granule config.granules it.owner) (not (it.owner == rec)) granule (ap not apart))
owner-none config cpu hold w rec _ found bad = false≢true bad

-- ---- a CPU's place

cells_apart : (c d : Cell) (it : RecRecord) (realm : RealmRecord) → c ≡ Rec it → d ≡ Rd realm → c ≡ d → ⊥
cells_apart c d it realm first second same = false≢true (ap (λ (x : Cell). tag_number (tag_of x) == 2) (sym first ∙ (same ∙ second)))

-- what is held at the two granules has their tags
right_tags : (config : Config) (cpu : ℕ) (hold : Hold) (w : Whole config cpu hold) (rec rd : ℕ) → hold.place ≡ Inside rec rd
    → has_wrong (needed rec tag.Rec ∷ needed rd tag.Rd ∷ []) hold.cells ≡ true → ⊥
right_tags config cpu hold w rec rd place is =
    let here = inside-cells config cpu hold w rec rd place in
    let wrong = wrong_tag (needed rec tag.Rec ∷ needed rd tag.Rd ∷ []) hold.cells is in
    let tags : tag_of (w.cells wrong.n.granule) ≡ wrong.n.tag =
    each_of_two (λ (n : Needed). tag_of (w.cells n.granule) ≡ n.tag) (needed rec tag.Rec) (needed rd tag.Rd)
    (ap (λ (c : Cell). tag_of c) here.is_rec) (ap (λ (c : Cell). tag_of c) here.is_realm) wrong.n wrong.has_n in
    let cell : w.cells wrong.n.granule ≡ wrong.h.cell = ap w.cells wrong.same ∙ agrees-at w.cells hold.cells wrong.h w.agrees wrong.has_h in
    false≢true (sym wrong.wrong
    ∙ eq-eqb (tag_number (tag_of wrong.h.cell)) (tag_number wrong.n.tag) (ap (λ (c : Cell). tag_number (tag_of c)) (sym cell) ∙ ap tag_number tags))

misplaced-none : (config : Config) (cpu : ℕ) (hold : Hold) (w : Whole config cpu hold) (rec rd : ℕ) → hold.place ≡ Inside rec rd
    → is_misplaced config rec rd hold.cells ≡ true → ⊥
unfolding is_misplaced
misplaced-none config cpu hold w rec rd place misfit =
    by (or_cases (not locks || has_wrong (needed rec tag.Rec ∷ needed rd tag.Rd ∷ []) hold.cells)
    (has_other_owner rd (cell_in rec hold.cells)) misfit)
  where
    locks : Bool
    locks = is_granule config.granules rec && is_granule config.granules rd && not (rec == rd)

    here : InsideCells w.cells rec rd
    here = inside-cells config cpu hold w rec rd place

    apart : (rec == rd) ≡ false
    apart = false_from_ne_true (rec == rd)
        (λ same. cells_apart (w.cells rec) (w.cells rd) here.it here.realm here.is_rec here.is_realm (ap w.cells (eqb-true rec rd same)))

    fits : locks ≡ true
    fits = and_from (is_granule config.granules rec && is_granule config.granules rd) (not (rec == rd))
        (and_from (is_granule config.granules rec) (is_granule config.granules rd)
        (tagged_granule config cpu hold w rec (ap (λ (c : Cell). tag_number (tag_of c) == 0) here.is_rec))
        (tagged_granule config cpu hold w rd (ap (λ (c : Cell). tag_number (tag_of c) == 0) here.is_realm)))
        (ap not apart)

    first : (not locks ≡ true) ⊎ (has_wrong (needed rec tag.Rec ∷ needed rd tag.Rd ∷ []) hold.cells ≡ true) → ⊥
    first (inl none) = false≢true (sym (not-true locks none) ∙ fits)
    first (inr wrong) = right_tags config cpu hold w rec rd place wrong

    other : (o : Option Cell) → cell_in rec hold.cells ≡ o → has_other_owner rd o ≡ true → ⊥
    other (Some (Rec it)) found is =
        let same : here.it ≡ it = same_Some here.it it (ap rec_in (sym here.is_rec ∙ whole_cell config cpu hold w rec (Rec it) found)) in
        false≢true (sym (not-true (it.owner == rd) is) ∙ eq-eqb it.owner rd (ap (λ (r : RecRecord). r.owner) (sym same) ∙ here.is_owner))
    other _ found is = false≢true is

    by : ((not locks || has_wrong (needed rec tag.Rec ∷ needed rd tag.Rd ∷ []) hold.cells) ≡ true)
        ⊎ (has_other_owner rd (cell_in rec hold.cells) ≡ true) → ⊥
    by (inl is) = first (or_cases (not locks) (has_wrong (needed rec tag.Rec ∷ needed rd tag.Rd ∷ []) hold.cells) is)
    by (inr is) = other (cell_in rec hold.cells) refl is

-- ---- any command

part-none : (config : Config) (cpu : ℕ) (hold : Hold) (w : Whole config cpu hold) (c : Call) → has_misfit_part config c hold.cells ≡ true → ⊥
unfolding has_misfit_part
part-none config cpu hold w (RealmDestroy rd) bad = root-none config cpu hold w rd (cell_in rd hold.cells) refl bad
part-none config cpu hold w (RecDestroy rec) bad = auxes-none config cpu hold w rec (cell_in rec hold.cells) refl bad
part-none config cpu hold w (RecEnter rec) bad = owner-none config cpu hold w rec (cell_in rec hold.cells) refl bad
part-none config cpu hold w _ bad = false≢true bad

way-none : (config : Config) (cpu : ℕ) (hold : Hold) → Whole config cpu hold → (o : Option Way) → is_misfit_way config hold.cells o ≡ true → ⊥
way-none config cpu hold w None bad = false≢true bad
way-none config cpu hold w (Some way) bad =
    misfit-none (record { cells = w.cells; places = w.places; shaped = w.shaped; agrees = w.agrees }) way.rd way.ipa bad

pub unshaped-none : (config : Config) (cpu : ℕ) (hold : Hold) (c : Call)
    → is_unshaped config c hold.place hold.cells ≡ true → Whole config cpu hold → ⊥
unfolding is_unshaped
unshaped-none config cpu hold c bad w = by hold.place refl bad
  where
    outside : (has_misfit_part config c hold.cells ≡ true) ⊎ (is_misfit_way config hold.cells (way_taken c) ≡ true) → ⊥
    outside (inl part) = part-none config cpu hold w c part
    outside (inr way) = way-none config cpu hold w (way_taken c) way

    inside : (rec rd : ℕ) → hold.place ≡ Inside rec rd
        → (is_misplaced config rec rd hold.cells ≡ true) ⊎ (is_misfit_way config hold.cells (way_inside c rec rd hold.cells) ≡ true) → ⊥
    inside rec rd place (inl misplaced) = misplaced-none config cpu hold w rec rd place misplaced
    inside rec rd place (inr way) = way-none config cpu hold w (way_inside c rec rd hold.cells) way

    by : (p : CpuPlace) → hold.place ≡ p → is_unshaped config c p hold.cells ≡ true → ⊥
    by Outside place is = outside (or_cases (has_misfit_part config c hold.cells) (is_misfit_way config hold.cells (way_taken c)) is)
    by (Inside rec rd) place is =
        inside rec rd place (or_cases (is_misplaced config rec rd hold.cells) (is_misfit_way config hold.cells (way_inside c rec rd hold.cells)) is)

-- they settle it, so that no more is taken or freed
or_middle : (a b c : Bool) → b ≡ true → (a || b || c) ≡ true
or_middle true b c is = refl
or_middle false true c is = refl
or_middle false false c is = absurd (false≢true is)

pub unshaped-settled : (config : Config) (c : Call) (place : CpuPlace) (held : List HeldCell) → is_unshaped config c place held ≡ true
    → is_settled config c place held ≡ true
unfolding is_unshaped is_settled
unshaped-settled config c Outside held unshaped = by (class_of c)
  where
    by : (k : Class) → is_settled_outside k config c held ≡ true
    by ByHost = or_middle (not (words_fit config c) || has_wrong (named c) held)
        (is_unshaped_outside config c held) (is_all_held config c held (way_taken c)) unshaped
    by _ = refl
unshaped-settled config c (Inside rec rd) held unshaped = by (class_of c)
  where
    by : (k : Class) → is_settled_inside k config c rec rd held ≡ true
    by ByHost = refl
    by ByRealm = ap (λ b. b || (is_held rec held && is_held rd held && is_read_over config held (way_inside c rec rd held))) unshaped
    by ByExit = ap (λ b. b || is_held rec held) unshaped
