-- A log to which what stands in a place was added leads where it led before, and after a change too where it has all that the change replaces.
use Rattle.undo_log.proofs.Common.{Bool, IsTrue, is_some, length, slice_index_or, suc, zero, arith, ◌<◌, ◌+◌, ◌-◌, ◌*◌, List, None, Option, Some, [], ap, cell_of, eqb-true, false, if◌then◌else◌, is_granule, put, refl, subst, sym, true, ℕ, ◌++◌, ◌==◌, ◌||◌, ◌∙◌, ◌∷◌, ◌≡◌, both_ways}
use Rattle.std.specs.Prelude.{flat_map, IfSome}
use Rattle.std.specs.List.{list_any}
use Rattle.std.proofs.lemmas.Bool.{or_left}
use Rattle.std.proofs.lemmas.List.Folds.{list_any-append}
use Rattle.rmm_spec.specs.Cell as spec
use Rattle.rmm_spec.specs.Flat as flat
use Rattle.rmm_spec.specs.HistoryText.{Config}
use Rattle.rmm_spec.specs.Lookup.{is_owned_by}
use Rattle.rmm_spec.specs.Shape as shape
use Rattle.rmm_spec.specs.State.{RecRecord}
use Rattle.rmm_spec.specs.declared.change.Change.{Change}
use Rattle.rmm_spec.specs.declared.change.Change.TheVariants.{RealmMade, RealmDestroyed, RecMade, RecDestroyed, RecordsChanged, EntriesChanged}
use Rattle.rmm_laws.specs.Whole.{Whole, IsShaped, cells_changed, places_changed, side_changed, side_without_rec, side_without_vmid, whole_changed}
use Rattle.spec_lemmas.proofs.Maps.{put-elsewhere, put-same}
use Rattle.granule_cells.specs.Sides.{with_count}
use Rattle.granule_cells.specs.Changes.{cells_made, granules_changed, table_at, table_found}
use Rattle.granule_cells.specs.MadeLaws.{IsApart, cells_made-apart, cells_made-changed}
use Rattle.undo_log.specs.Noted.{HasBeside, HasCells, LeadsAsBefore, has_cell, has_count, has_places, has_vmid, is_cell_of}
use Rattle.undo_log.specs.Patches.{Standing, patched, put_all, put_in}
use Rattle.spec_machine.specs.Whole.{places_of}
use Rattle.undo_log.proofs.Patched.{put_all-last}
use Rattle.granule_cells.specs.declared.cell.Cell as monitor_cell
use Rattle.spec_machine.specs.declared.places.Places as cpu_places
use Rattle.undo_log.specs.declared.patch.Patch.{Patch}
use Rattle.undo_log.specs.declared.patch.Replaced.{Replaced}
use Rattle.undo_log.specs.declared.patch.Replaced.TheVariants.{Cell, Places, RecCount, Vmid}

-- ---- what is put in, place by place

-- what lies in a granule after all are put in
cell_after : ℕ → ℕ → List Replaced → spec.Cell → spec.Cell
cell_after granules granule [] cell = cell
cell_after granules granule (Cell other new ∷ items) cell =
    if is_granule granules other then (if granule == other then cell_of new else cell_after granules granule items cell)
    else cell_after granules granule items cell
cell_after granules granule (_ ∷ items) cell = cell_after granules granule items cell

-- the realm that has a VMID, and how many RECs belong to a realm
vmid_after : ℕ → List Replaced → Option ℕ → Option ℕ
vmid_after vmid [] realm = realm
vmid_after vmid (Vmid other new ∷ items) realm = if vmid == other then new else vmid_after vmid items realm
vmid_after vmid (_ ∷ items) realm = vmid_after vmid items realm

count_after : ℕ → ℕ → List Replaced → ℕ → ℕ
count_after granules rd [] count = count
count_after granules rd (RecCount other new ∷ items) count =
    if is_granule granules other then (if rd == other then new else count_after granules rd items count) else count_after granules rd items count
count_after granules rd (_ ∷ items) count = count_after granules rd items count

-- the places
places_after : List Replaced → (ℕ → shape.CpuPlace) → ℕ → shape.CpuPlace
places_after [] places = places
places_after (Places new ∷ items) places = places_of new
places_after (_ ∷ items) places = places_after items places

after : List Replaced → Standing → Standing
after items s = record {
  config = s.config;
  whole = record {
    cells = λ granule. cell_after s.config.granules granule items (s.whole.cells granule);
    side = record {
      vmids = λ vmid. vmid_after vmid items (s.whole.side.vmids vmid);
      rec_counts = λ rd. count_after s.config.granules rd items (s.whole.side.rec_counts rd);
    };
    places = places_after items s.whole.places;
  };
}

-- each place has what the items say of it
put_all-after : (items : List Replaced) (s : Standing) → put_all items s ≡ after items s
unfolding cell_after vmid_after count_after places_after after
put_all-after [] s = refl
put_all-after (Cell granule cell ∷ items) s = ap (put_in (Cell granule cell)) (put_all-after items s) ∙ by (is_granule s.config.granules granule)
  where
    rest : Whole
    rest = (after items s).whole

    with_cells : (ℕ → spec.Cell) → Standing
    with_cells cells = record { config = s.config; whole = record rest { cells = cells } }

    by : (b : Bool) → (if b then with_cells (put rest.cells granule (cell_of cell)) else with_cells rest.cells)
        ≡ with_cells (λ g. if b then (if g == granule then cell_of cell else rest.cells g) else rest.cells g)
    by true = refl
    by false = refl
put_all-after (RecCount rd count ∷ items) s = ap (put_in (RecCount rd count)) (put_all-after items s) ∙ by (is_granule s.config.granules rd)
  where
    rest : Whole
    rest = (after items s).whole

    with_side : shape.Side → Standing
    with_side side = record { config = s.config; whole = record rest { side = side } }

    by : (b : Bool) → with_side (if b then with_count rest.side rd count else rest.side)
        ≡ with_side (record rest.side { rec_counts = λ r. if b then (if r == rd then count else rest.side.rec_counts r) else rest.side.rec_counts r })
    by true = refl
    by false = refl
put_all-after (Vmid vmid realm ∷ items) s = ap (put_in (Vmid vmid realm)) (put_all-after items s)
put_all-after (Places places ∷ items) s = ap (put_in (Places places)) (put_all-after items s)

-- ---- what the items have is the same whatever stood there

-- of what is put in a granule
same-put : {A : Type 0} (granules place at : ℕ) (has : Bool) (new one two : A) → IsTrue (is_granule granules place)
    → IsTrue (place == at || has) → (IsTrue has → one ≡ two)
    → (if is_granule granules at then (if place == at then new else one) else one)
    ≡ (if is_granule granules at then (if place == at then new else two) else two)
same-put granules place at has new one two there noted same = by (is_granule granules at) refl (place == at) refl noted
  where
    by : (b : Bool) → is_granule granules at ≡ b → (e : Bool) → (place == at) ≡ e → IsTrue (e || has)
        → (if b then (if e then new else one) else one) ≡ (if b then (if e then new else two) else two)
    by true is true here noted = refl
    by true is false here noted = same noted
    by false is true here noted = both_ways (subst (λ a. IsTrue (is_granule granules a)) (eqb-true place at here) there) is
    by false is false here noted = same noted

same-cell : (granules granule : ℕ) (items : List Replaced) (cell other : spec.Cell) → IsTrue (is_granule granules granule)
    → IsTrue (has_cell granule items) → cell_after granules granule items cell ≡ cell_after granules granule items other
unfolding cell_after
same-cell granules granule [] cell other there has = both_ways has refl
same-cell granules granule (Cell at new ∷ items) cell other there has =
    same-put granules granule at (has_cell granule items) (cell_of new) (cell_after granules granule items cell)
    (cell_after granules granule items other) there has (same-cell granules granule items cell other there)
same-cell granules granule (_ ∷ items) cell other there has = same-cell granules granule items cell other there has

same-vmid : (vmid : ℕ) (items : List Replaced) (realm other : Option ℕ) → IsTrue (has_vmid vmid items)
    → vmid_after vmid items realm ≡ vmid_after vmid items other
unfolding vmid_after
same-vmid vmid [] realm other has = both_ways has refl
same-vmid vmid (Vmid at new ∷ items) realm other has = by (vmid == at) has (same-vmid vmid items realm other)
  where
    by : (e : Bool) → IsTrue (e || has_vmid vmid items) → (IsTrue (has_vmid vmid items) → vmid_after vmid items realm ≡ vmid_after vmid items other)
        → (if e then new else vmid_after vmid items realm) ≡ (if e then new else vmid_after vmid items other)
    by true has same = refl
    by false has same = same has
same-vmid vmid (_ ∷ items) realm other has = same-vmid vmid items realm other has

same-count : (granules rd : ℕ) (items : List Replaced) (count other : ℕ) → IsTrue (is_granule granules rd)
    → IsTrue (has_count rd items) → count_after granules rd items count ≡ count_after granules rd items other
unfolding count_after
same-count granules rd [] count other there has = both_ways has refl
same-count granules rd (RecCount at new ∷ items) count other there has =
    same-put granules rd at (has_count rd items) new (count_after granules rd items count) (count_after granules rd items other) there has
    (same-count granules rd items count other there)
same-count granules rd (_ ∷ items) count other there has = same-count granules rd items count other there has

same-places : (items : List Replaced) (places other : ℕ → shape.CpuPlace) → IsTrue (has_places items)
    → places_after items places ≡ places_after items other
unfolding places_after
same-places [] places other has = both_ways has refl
same-places (Places new ∷ items) places other has = refl
same-places (_ ∷ items) places other has = same-places items places other has

-- ---- logs

-- a log that gets more in turn
pub leads-on : (s : Standing) (one two three : Patch) → LeadsAsBefore s one two → LeadsAsBefore s two three → LeadsAsBefore s one three
leads-on s one two three first second = record {
  back = second.back ∙ first.back;
  cells = λ granule has. second.cells granule (first.cells granule has);
}

-- what stands in its place is added
pub leads-more : (s : Standing) (old new : Patch) (item : Replaced) → new.items.items ≡ old.items.items ++ item ∷ [] → put_in item s ≡ s
    → LeadsAsBefore s old new
unfolding patched
leads-more s old new item is same = record {
  back = (λ i. put_all (is i) s) ∙ put_all-last old.items.items item s ∙ ap (put_all old.items.items) same;
  cells = λ granule has. ap (list_any (is_cell_of granule)) is
      ∙ list_any-append (is_cell_of granule) old.items.items (item ∷ [])
      ∙ or_left (list_any (is_cell_of granule) old.items.items) (list_any (is_cell_of granule) (item ∷ [])) has;
}

-- what an item has stands in its place
pub cell-stands : (s : Standing) (granule : ℕ) (new : monitor_cell.Cell) → cell_of new ≡ s.whole.cells granule → put_in (Cell granule new) s ≡ s
cell-stands s granule new is = by (is_granule s.config.granules granule)
  where
    same : put s.whole.cells granule (cell_of new) ≡ s.whole.cells
    same = put-same s.whole.cells granule (cell_of new) (sym is)

    by : (b : Bool)
        → (if b then record { config = s.config; whole = record s.whole { cells = put s.whole.cells granule (cell_of new) } } else s) ≡ s
    by true = λ i. record { config = s.config; whole = record s.whole { cells = same i } }
    by false = refl

pub vmid-stands : (s : Standing) (vmid : ℕ) (new : Option ℕ) → new ≡ s.whole.side.vmids vmid → put_in (Vmid vmid new) s ≡ s
vmid-stands s vmid new is =
    let same = put-same s.whole.side.vmids vmid new (sym is) in
    λ i. record { config = s.config; whole = record s.whole { side = record s.whole.side { vmids = same i } } }

pub count-stands : (s : Standing) (rd new : ℕ) → new ≡ s.whole.side.rec_counts rd → put_in (RecCount rd new) s ≡ s
count-stands s rd new is = λ i. record { config = s.config; whole = record s.whole { side = by (is_granule s.config.granules rd) i } }
  where
    same : put s.whole.side.rec_counts rd new ≡ s.whole.side.rec_counts
    same = put-same s.whole.side.rec_counts rd new (sym is)

    by : (b : Bool) → (if b then with_count s.whole.side rd new else s.whole.side) ≡ s.whole.side
    by true = λ i. record s.whole.side { rec_counts = same i }
    by false = refl

pub places-stand : (s : Standing) (new : cpu_places.Places) → places_of new ≡ s.whole.places → put_in (Places new) s ≡ s
places-stand s new is = λ i. record { config = s.config; whole = record s.whole { places = is i } }

-- ---- granules that are noted

-- each granule of a list has its cell among the items where each place of it that has one does
pub cells-listed : (items : List Replaced) (granules : List (Option ℕ))
    → ((k : ℕ) → k < length granules → IfSome (slice_index_or granules k None) (λ g. IsTrue (has_cell g items)))
    → HasCells (flat_map table_at granules) items
cells-listed items [] has = tt
cells-listed items (None ∷ granules) has = cells-listed items granules (λ k below. has (suc k) (omega (arith, below)))
cells-listed items (Some granule ∷ granules) has =
    (has 0 (omega arith), cells-listed items granules (λ k below. has (suc k) (omega (arith, below))))

-- what is noted stays noted
pub kept-some : (s : Standing) (old new : Patch) → LeadsAsBefore s old new → (o : Option ℕ)
    → IfSome o (λ g. IsTrue (has_cell g old.items.items)) → IfSome o (λ g. IsTrue (has_cell g new.items.items))
kept-some s old new leads None has = tt
kept-some s old new leads (Some granule) has = leads.cells granule has

pub kept-cells : (s : Standing) (old new : Patch) → LeadsAsBefore s old new → (granules : List ℕ)
    → HasCells granules old.items.items → HasCells granules new.items.items
kept-cells s old new leads [] has = tt
kept-cells s old new leads (granule ∷ granules) has = (leads.cells granule has.0, kept-cells s old new leads granules has.1)

-- ---- what a change leaves as it was

-- what isn't noted is none of what is
unnoted : (has : ℕ → Bool) (place key : ℕ) → has place ≡ false → IsTrue (has key) → (place == key) ≡ false
unnoted has place key none noted = by (place == key) refl
  where
    by : (b : Bool) → (place == key) ≡ b → b ≡ false
    by true is = both_ways (subst (λ a. IsTrue (has a)) (sym (eqb-true place key is)) noted) none
    by false is = refl

-- so a granule that isn't noted is none of those that are
apart : (items : List Replaced) (granules : List ℕ) (granule : ℕ) → has_cell granule items ≡ false → HasCells granules items
    → IsApart granule granules
apart items [] granule none has = tt
apart items (g ∷ granules) granule none has =
    (unnoted (λ a. has_cell a items) granule g none has.0, apart items granules granule none has.1)

beside-vmid : (s : Standing) (change : Change) (items : List Replaced) → HasBeside s change items → (vmid : ℕ) → has_vmid vmid items ≡ false
    → (side_changed s.whole.cells s.whole.side change).vmids vmid ≡ s.whole.side.vmids vmid
unfolding side_changed
beside-vmid s (RealmMade rd root width level given algo) items has vmid none =
    put-elsewhere s.whole.side.vmids given (Some rd) vmid (unnoted (λ v. has_vmid v items) vmid given none has)
beside-vmid s (RealmDestroyed rd root) items has vmid none = freed (s.whole.cells rd) has
  where
    freed : (c : spec.Cell) → IfSome (spec.realm_in c) (λ realm. IsTrue (has_vmid realm.vmid items))
        → (side_without_vmid s.whole.side c).vmids vmid ≡ s.whole.side.vmids vmid
    freed (spec.Rd realm) has =
        put-elsewhere s.whole.side.vmids realm.vmid None vmid (unnoted (λ v. has_vmid v items) vmid realm.vmid none has)
    freed _ has = refl
beside-vmid s (RecDestroyed rec aux0 aux1) items has vmid none = kept (s.whole.cells rec)
  where
    kept : (c : spec.Cell) → (side_without_rec s.whole.side c).vmids vmid ≡ s.whole.side.vmids vmid
    kept (spec.Rec it) = refl
    kept _ = refl
beside-vmid s _ items has vmid none = refl

beside-count : (s : Standing) (change : Change) (items : List Replaced) → HasBeside s change items → (rd : ℕ) → has_count rd items ≡ false
    → (side_changed s.whole.cells s.whole.side change).rec_counts rd ≡ s.whole.side.rec_counts rd
unfolding side_changed
beside-count s (RecMade owner rec mpidr flags aux0 aux1) items has rd none =
    put-elsewhere s.whole.side.rec_counts owner (s.whole.side.rec_counts owner + 1) rd (unnoted (λ r. has_count r items) rd owner none has)
beside-count s (RecDestroyed rec aux0 aux1) items has rd none = freed (s.whole.cells rec) has
  where
    freed : (c : spec.Cell) → IfSome (spec.rec_in c) (λ it. IsTrue (has_count it.owner items))
        → (side_without_rec s.whole.side c).rec_counts rd ≡ s.whole.side.rec_counts rd
    freed (spec.Rec it) has =
        put-elsewhere s.whole.side.rec_counts it.owner (s.whole.side.rec_counts it.owner - 1) rd
        (unnoted (λ r. has_count r items) rd it.owner none has)
    freed _ has = refl
beside-count s (RealmDestroyed at root) items has rd none = kept (s.whole.cells at)
  where
    kept : (c : spec.Cell) → (side_without_vmid s.whole.side c).rec_counts rd ≡ s.whole.side.rec_counts rd
    kept (spec.Rd realm) = refl
    kept _ = refl
beside-count s _ items has rd none = refl

beside-places : (s : Standing) (change : Change) (items : List Replaced) → HasBeside s change items → has_places items ≡ false
    → places_changed s.whole.cells s.whole.places change ≡ s.whole.places
unfolding places_changed
beside-places s (RecordsChanged realm None) items has none = refl
beside-places s (RecordsChanged realm (Some rec)) items has none = both_ways has none
beside-places s (EntriesChanged rd level entries page realm None) items has none = refl
beside-places s (EntriesChanged rd level entries page realm (Some rec)) items has none = both_ways has none
beside-places s _ items has none = refl

-- none is counted where none passes
count_below-none : (n : ℕ) (passes : ℕ → Bool) → ((k : ℕ) → passes k ≡ false) → shape.count_below n passes ≡ 0
count_below-none zero passes none = refl
count_below-none (suc n) passes none = rw (none n) (count_below-none n passes none)

-- no REC belongs to a realm where no granule is
uncounted : (config : Config) (w : Whole) → IsShaped config w → (rd : ℕ) → is_granule config.granules rd ≡ false → w.side.rec_counts rd ≡ 0
uncounted config w shaped rd none =
    shaped.realms.counted rd
    ∙ count_below-none config.granules (λ k. is_owned_by rd (spec.recs_of w.cells (k * 4096)))
    (λ k. by (k * 4096) (spec.recs_of w.cells (k * 4096)) refl)
  where
    by : (g : ℕ) (o : Option RecRecord) → spec.recs_of w.cells g ≡ o → is_owned_by rd o ≡ false
    by g None is = refl
    by g (Some it) is = test (it.owner == rd) refl
      where
        test : (b : Bool) → (it.owner == rd) ≡ b → b ≡ false
        test true same =
            both_ways (shaped.recs.owned g it is)
            (ap (λ a. is_some (spec.realm_in (w.cells a))) (eqb-true it.owner rd same)
            ∙ ap (λ c. is_some (spec.realm_in c)) (shaped.outside.undelegated rd none))
        test false same = refl

-- ---- the law

-- where two wholes differ only in what the items have, the items lead from both to one
same-after : (config : Config) (items : List Replaced) (w v : Whole)
    → ((granule : ℕ) → IsTrue (has_cell granule items) → is_granule config.granules granule ≡ false → w.cells granule ≡ v.cells granule)
    → ((granule : ℕ) → has_cell granule items ≡ false → w.cells granule ≡ v.cells granule)
    → ((vmid : ℕ) → has_vmid vmid items ≡ false → w.side.vmids vmid ≡ v.side.vmids vmid)
    → ((rd : ℕ) → is_granule config.granules rd ≡ false → w.side.rec_counts rd ≡ v.side.rec_counts rd)
    → ((rd : ℕ) → has_count rd items ≡ false → w.side.rec_counts rd ≡ v.side.rec_counts rd) → (has_places items ≡ false → w.places ≡ v.places)
    → put_all items (record { config = config; whole = w }) ≡ put_all items (record { config = config; whole = v })
unfolding after
same-after config items w v outside apart vmids nowhere counts places =
    put_all-after items (record { config = config; whole = w })
    ∙ (λ i. record {
      config = config;
      whole = record {
        cells = λ granule. in_cell granule (has_cell granule items) refl (is_granule config.granules granule) refl i;
        side = record {
          vmids = λ vmid. in_vmid vmid (has_vmid vmid items) refl i;
          rec_counts = λ rd. in_count rd (has_count rd items) refl (is_granule config.granules rd) refl i;
        };
        places = in_places (has_places items) refl i;
      };
    })
    ∙ sym (put_all-after items (record { config = config; whole = v }))
  where
    in_cell : (granule : ℕ) (b : Bool) → has_cell granule items ≡ b → (g : Bool) → is_granule config.granules granule ≡ g
        → cell_after config.granules granule items (w.cells granule) ≡ cell_after config.granules granule items (v.cells granule)
    in_cell granule true has true there = same-cell config.granules granule items (w.cells granule) (v.cells granule) there has
    in_cell granule true has false there = ap (cell_after config.granules granule items) (outside granule has there)
    in_cell granule false has g there = ap (cell_after config.granules granule items) (apart granule has)

    in_vmid : (vmid : ℕ) (b : Bool) → has_vmid vmid items ≡ b → vmid_after vmid items (w.side.vmids vmid) ≡ vmid_after vmid items (v.side.vmids vmid)
    in_vmid vmid true has = same-vmid vmid items (w.side.vmids vmid) (v.side.vmids vmid) has
    in_vmid vmid false none = ap (vmid_after vmid items) (vmids vmid none)

    in_count : (rd : ℕ) (b : Bool) → has_count rd items ≡ b → (g : Bool) → is_granule config.granules rd ≡ g
        → count_after config.granules rd items (w.side.rec_counts rd) ≡ count_after config.granules rd items (v.side.rec_counts rd)
    in_count rd true has true there = same-count config.granules rd items (w.side.rec_counts rd) (v.side.rec_counts rd) there has
    in_count rd b has false there = ap (count_after config.granules rd items) (nowhere rd there)
    in_count rd false none true there = ap (count_after config.granules rd items) (counts rd none)

    in_places : (b : Bool) → has_places items ≡ b → places_after items w.places ≡ places_after items v.places
    in_places true has = same-places items w.places v.places has
    in_places false none = ap (places_after items) (places none)

-- a log that has all that a change replaces leads after it where it led before
pub changed-back : (config : Config) (w : Whole) (change : Change) (at : Option ℕ) (items : List Replaced)
    → at ≡ table_found (flat.table_granule config.granules (spec.tables_of w.cells)) change
    → IsShaped config w → IsShaped config (whole_changed config w change)
    → HasCells (granules_changed at change) items → HasBeside (record { config = config; whole = w }) change items
    → put_all items (record { config = config; whole = whole_changed config w change }) ≡ put_all items (record { config = config; whole = w })
changed-back config w change at items found old new cells beside =
    same-after config items (whole_changed config w change) w
    (λ granule has out. new.outside.undelegated granule out ∙ sym (old.outside.undelegated granule out))
    (λ granule none. ap (λ (now : ℕ → spec.Cell). now granule) (sym made)
    ∙ cells_made-apart w.cells at change granule (apart items (granules_changed at change) granule none cells))
    (beside-vmid (record { config = config; whole = w }) change items beside)
    (λ rd none. uncounted config (whole_changed config w change) new rd none ∙ sym (uncounted config w old rd none))
    (beside-count (record { config = config; whole = w }) change items beside)
    (beside-places (record { config = config; whole = w }) change items beside)
  where
    made : cells_made w.cells at change ≡ cells_changed config w.cells change
    made = (λ i. cells_made w.cells (found i) change) ∙ cells_made-changed config w.cells change
