-- What the held cells tell of tags, realms, RECs and walks is what each whole has that agrees with them.
use Rattle.world_laws.proofs.Common.{◌&&◌, ◌/◌, ◌==◌, ◌||◌, ◌∙◌, ◌≡◌, ◌≤◌, ◌⊎◌, Bool, Cell, Config, HeldCell, HoldsTable, IsTrue, List, None, Option, Side, Some, State, Way, and_parts, ap, arith, entry_at, entry_for, entry_number, false, false≢true, flat_state, if◌then◌else◌, inl, inr, is_held, is_some, is_table, is_walk_held, not, not-true, reach, reach-le, realm_at, refl, seen_state, sym, table_behind, table_held, table_number, table_number-entry, table_placed, tables_of, true, ℕ}
use Rattle.std.proofs.Common.{◌+◌, ◌*◌, eqb-true}
use Rattle.std.specs.Prelude.{unwrap_or}
use Rattle.std.specs.Option.{option_and_then}
use Rattle.std.proofs.lemmas.Bool.{or_cases}
use Rattle.rmm_spec.specs.declared.call.Removal.{Removal}
use Rattle.rmm_spec.specs.declared.call.Removal.TheVariants.{Destroy, Fold}
use Rattle.rmm_spec.specs.declared.entry.EntryTest.{EntryTest}
use Rattle.rmm_spec.specs.declared.entry.EntryTest.TheVariants.{Live, Unlike}
use Rattle.rmm_spec.specs.declared.tag.Ripas.TheVariants.{Destroyed}
use Rattle.rmm_spec.specs.declared.tag.Tag.{Tag}
use Rattle.rmm_spec.specs.State.{RealmRecord}
use Rattle.rmm_spec.specs.Lookup.{tag_number, is_granule, has_tag, rec_at, no_realm, no_rec}
use Rattle.rmm_spec.specs.Step.Terms.{is_space}
use Rattle.rmm_spec.specs.Step.Table.{ripas_left}
use Rattle.rmm_spec.specs.Table.{TableRecord}
use Rattle.rmm_spec.specs.Walk.{passes, entry_ripas, has_entry}
use Rattle.rmm_spec.specs.Cell.{Undelegated, Rd, tag_of, realm_in, rec_in, table_in, realms_of}
use Rattle.rmm_spec.specs.Flat.{is_table_of}
use Rattle.rmm_laws.proofs.Spaces.{space_cases}
use Rattle.spec_lemmas.proofs.Placed.{cell_is_granule}
use Rattle.rmm_laws.proofs.Cells.{cell-realm}
use Rattle.rmm_laws.proofs.Finds.{holds-is_table_of}
use Rattle.world_laws.specs.Held.{cell_in}
use Rattle.world_laws.specs.Same.{SameSpace, SameWalk}
use Rattle.world_laws.specs.SeenState.{is_of_realm, start_of, blank_realm, realm_of_width, realm_behind, cell_or, cell_seen}
use Rattle.world_laws.proofs.Found.{behind-table, placed-some, any_below-same}
use Rattle.world_laws.proofs.Tables.{placed-found, entry-same, reach-end}
use Rattle.world_laws.proofs.Wholes.{Whole, state, sound, whole_cell, whole_table, held-contains}
use Rattle.lemmas.proofs.Options.{value_there}

-- ---- granules that are held

-- what is told of a granule that is held is the whole's
cell-same : {config : Config} {side : Side} {held : List HeldCell} (w : Whole config side held) (g : ℕ)
    → IsTrue (is_held g held) → w.cells g ≡ cell_seen config held g
cell-same {config} {side} {held} w g has = by (is_granule config.granules g) refl
  where
    known : (o : Option Cell) → cell_in g held ≡ o → IsTrue (is_some o) → w.cells g ≡ cell_or o (realm_behind held g)
    known None found there = absurd (false≢true there)
    known (Some c) found there = whole_cell w g c found

    by : (b : Bool) → is_granule config.granules g ≡ b → w.cells g ≡ (if b then cell_or (cell_in g held) (realm_behind held g) else Undelegated)
    by true granule = known (cell_in g held) refl has
    by false outside = w.shaped.outside.undelegated g outside

-- its tag
pub tag-same : {config : Config} {side : Side} {held : List HeldCell} (w : Whole config side held) (g : ℕ) (t : Tag) → IsTrue (is_held g held)
    → has_tag (state w) g t ≡ has_tag (seen_state config held) g t
unfolding has_tag flat_state seen_state
tag-same {config} {side} {held} w g t has =
    ap (λ (c : Cell). is_granule config.granules g && tag_number (tag_of c) == tag_number t) (cell-same w g has)

-- the realm there
pub realm-same : {config : Config} {side : Side} {held : List HeldCell} (w : Whole config side held) (rd : ℕ) → IsTrue (is_held rd held)
    → realm_at (state w) rd ≡ realm_at (seen_state config held) rd
unfolding realm_at flat_state seen_state
realm-same {config} {side} {held} w rd has = ap (λ (c : Cell). unwrap_or (realm_in c) no_realm) (cell-same w rd has)

-- the REC there
pub rec-same : {config : Config} {side : Side} {held : List HeldCell} (w : Whole config side held) (rec : ℕ) → IsTrue (is_held rec held)
    → rec_at (state w) rec ≡ rec_at (seen_state config held) rec
unfolding rec_at flat_state seen_state
rec-same {config} {side} {held} w rec has = ap (λ (c : Cell). unwrap_or (rec_in c) no_rec) (cell-same w rec has)

-- ---- the realm behind a held table

-- it stands, and its address space is what the table says
record IsBehind (granules : ℕ) (cells : ℕ → Cell) (held : List HeldCell) (rd : ℕ) : Type 0 where
  realm : RealmRecord
  is_realm : cells rd ≡ Rd realm
  is_lock : is_granule granules rd ≡ true
  told : realm_behind held rd ≡ Some (blank_realm realm.width)
  start : realm.start_level ≡ start_of realm.width

-- the realm of a held table stands
realm-there : {config : Config} {side : Side} {held : List HeldCell} (w : Whole config side held) (rd g : ℕ) (t : TableRecord)
    → table_behind held rd ≡ Some g → table_held held g ≡ Some t → t.place.rd ≡ rd → IsBehind config.granules w.cells held rd
unfolding realm_behind
realm-there {config} {side} {held} w rd g t found table same =
    let owner = w.shaped.tables.placed g t (whole_table w g t table) in
    let at : realms_of w.cells rd ≡ Some owner.0 = ap (realms_of w.cells) (sym same) ∙ owner.1 in
    let cell = cell-realm (w.cells rd) owner.0 at in
    let space = w.shaped.realms.spaces rd owner.0 at in
    let start : owner.0.start_level ≡ start_of owner.0.width = elim (space_cases owner.0.width owner.0.start_level space) [
      | inl small ↦ small.1 ∙ ap start_of (sym small.0)
      | inr large ↦ large.1 ∙ ap start_of (sym large.0)
    ] in
    let fits : is_space owner.0.width (start_of owner.0.width) ≡ true = sym (ap (is_space owner.0.width) start) ∙ space in
    let known : TableRecord → Option RealmRecord = λ table. realm_of_width table.place.width in
    record {
      realm = owner.0;
      is_realm = cell;
      is_lock = cell_is_granule config side w.places w.cells w.shaped rd
          (λ none. false≢true (ap (λ (c : Cell). is_some (realm_in c)) (sym none ∙ cell)));
      told = ap (λ o. option_and_then known (option_and_then (table_held held) o)) found
          ∙ (ap (option_and_then known) table ∙ (ap realm_of_width owner.2.width
          ∙ ap (λ b. if b then Some (blank_realm owner.0.width) else None) fits));
      start = start;
    }

-- and so does the one whose table is found
behind : {config : Config} {side : Side} {held : List HeldCell} (w : Whole config side held) (rd : ℕ) → IsTrue (is_some (table_behind held rd))
    → IsBehind config.granules w.cells held rd
behind {config} {side} {held} w rd there =
    let g = value_there (table_behind held rd) there in
    by g.0 g.1 (table_held held g.0) refl (behind-table held rd g.0 g.1)
  where
    by : (g : ℕ) → table_behind held rd ≡ Some g → (o : Option TableRecord)
        → table_held held g ≡ o → is_of_realm rd o ≡ true → IsBehind config.granules w.cells held rd
    by g found None table of_realm = absurd (false≢true of_realm)
    by g found (Some t) table of_realm = realm-there w rd g t found table (eqb-true t.place.rd rd of_realm)

-- where its granule isn't held, the realm that is told of is made up
behind-seen : (config : Config) (cells : ℕ → Cell) (held : List HeldCell) (rd : ℕ) (b : IsBehind config.granules cells held rd)
    → is_held rd held ≡ false → cell_seen config held rd ≡ Rd (blank_realm b.realm.width)
behind-seen config cells held rd b free = rw (b.is_lock, b.told) (by (cell_in rd held) free)
  where
    by : (o : Option Cell) → is_some o ≡ false → cell_or o (Some (blank_realm b.realm.width)) ≡ Rd (blank_realm b.realm.width)
    by None none = refl
    by (Some c) some = absurd (false≢true (sym some))

-- ---- the realm by either

-- a realm is told of where its granule or one of its tables is held
pub told-tag : {config : Config} {side : Side} {held : List HeldCell} (w : Whole config side held) (rd : ℕ) (t : Tag)
    → (is_held rd held || is_some (table_behind held rd)) ≡ true → has_tag (state w) rd t ≡ has_tag (seen_state config held) rd t
unfolding has_tag flat_state seen_state
told-tag {config} {side} {held} w rd t told = by (is_held rd held) refl told
  where
    by : (b : Bool) → is_held rd held ≡ b → (b || is_some (table_behind held rd)) ≡ true
        → (is_granule config.granules rd && tag_number (tag_of (w.cells rd)) == tag_number t)
        ≡ (is_granule config.granules rd && tag_number (tag_of (cell_seen config held rd)) == tag_number t)
    by true has there = tag-same w rd t has
    by false free there =
        let b = behind w rd there in
        ap (λ (c : Cell). is_granule config.granules rd && tag_number (tag_of c) == tag_number t) b.is_realm
        ∙ sym (ap (λ (c : Cell). is_granule config.granules rd && tag_number (tag_of c) == tag_number t) (behind-seen config w.cells held rd b free))

-- and how wide its address space is
pub told-space : {config : Config} {side : Side} {held : List HeldCell} (w : Whole config side held) (rd : ℕ)
    → (is_held rd held || is_some (table_behind held rd)) ≡ true → SameSpace (state w) (seen_state config held) rd
unfolding realm_at flat_state seen_state
told-space {config} {side} {held} w rd told = by (is_held rd held) refl told
  where
    by : (b : Bool) → is_held rd held ≡ b → (b || is_some (table_behind held rd)) ≡ true → SameSpace (state w) (seen_state config held) rd
    by true has there = let same = realm-same w rd has in
        record { width = ap (λ (r : RealmRecord). r.width) same; start = ap (λ (r : RealmRecord). r.start_level) same }
    by false free there =
        let b = behind w rd there in
        let seen = behind-seen config w.cells held rd b free in
        let width : Cell → ℕ = λ c. (unwrap_or (realm_in c) no_realm).width in
        let start : Cell → ℕ = λ c. (unwrap_or (realm_in c) no_realm).start_level in
        record { width = ap width b.is_realm ∙ sym (ap width seen); start = ap start b.is_realm ∙ (b.start ∙ sym (ap start seen)) }

-- ---- walks

-- the table at the end of a walk that is held, in held cells and in the whole
pub record WalkEnd (s t : State) (held : List HeldCell) (way : Way) : Type 0 where
  pub granule : ℕ
  pub placed : table_placed held way.rd (reach t way.rd way.ipa way.max) (table_number (reach t way.rd way.ipa way.max) way.ipa) ≡ Some granule
  pub last : reach t way.rd way.ipa way.max ≤ 3
  pub same : SameWalk s t way

-- where a walk ends at a held table, the whole has its end there
pub walk-end : {config : Config} {side : Side} {held : List HeldCell} (w : Whole config side held) (way : Way) → is_walk_held config held way ≡ true
    → WalkEnd (state w) (seen_state config held) held way
unfolding is_walk_held
walk-end {config} {side} {held} w way is =
    let t = seen_state config held in
    let level = reach t way.rd way.ipa way.max in
    let parts = and_parts (is_some (table_placed held way.rd level (table_number level way.ipa)))
    (level == way.max || not (is_table (entry_for t way.rd level way.ipa))) is in
    let g = value_there (table_placed held way.rd level (table_number level way.ipa)) parts.0 in
    let found = placed-found w way.rd level (table_number level way.ipa) g.0 g.1 in
    let owner = (sound w).tables.owned way.rd level (table_number level way.ipa) g.0 found in
    let number : entry_number level way.ipa / 512 ≡ table_number level way.ipa = sym (table_number-entry level way.ipa owner.2.last) in
    let entry = entry-same w g.0 way.rd level (entry_number level way.ipa) (ap (table_placed held way.rd level) number ∙ g.1) in
    let ends : (level ≡ way.max) ⊎ (is_table (entry_for (state w) way.rd level way.ipa) ≡ false) =
    elim (or_cases (level == way.max) (not (is_table (entry_for t way.rd level way.ipa))) parts.1) [
      | inl last ↦ inl (eqb-true level way.max last)
      | inr leaf ↦ inr (ap is_table entry ∙ not-true (is_table (entry_for t way.rd level way.ipa)) leaf)
    ] in
    let reached = reach-end (state w) (sound w) way.rd way.ipa level way.max g.0 found (reach-le t way.rd way.ipa way.max) ends in
    record {
      granule = g.0;
      placed = g.1;
      last = owner.2.last;
      same = record { level = reached; entry = ap (λ l. entry_for (state w) way.rd l way.ipa) reached ∙ entry };
    }

-- ---- tables below

-- a table of the whole that is held is found at its place
pub held-placed : {config : Config} {side : Side} {held : List HeldCell} (w : Whole config side held) (g rd level number : ℕ)
    → IsTrue (is_held g held) → HoldsTable (tables_of w.cells) g rd level number → (f : ℕ) × (table_placed held rd level number ≡ Some f)
held-placed {config} {side} {held} w g rd level number has holds =
    placed-some held rd level number g (held-contains held g has)
    (ap (is_table_of rd level number) (by (cell_in g held) refl has) ∙ holds-is_table_of (tables_of w.cells) g rd level number holds)
  where
    by : (o : Option Cell) → cell_in g held ≡ o → IsTrue (is_some o) → option_and_then table_in o ≡ tables_of w.cells g
    by None found there = absurd (false≢true there)
    by (Some c) found there = ap table_in (sym (whole_cell w g c found))

-- an entry that is looked for is found in a table that is held where the whole has it
pub has_entry-same : {config : Config} {side : Side} {held : List HeldCell} (w : Whole config side held) (g rd level number : ℕ) (test : EntryTest)
    → table_placed held rd level number ≡ Some g → has_entry (state w) rd level number test ≡ has_entry (seen_state config held) rd level number test
unfolding has_entry
has_entry-same {config} {side} {held} w g rd level number test is =
    any_below-same 512 (λ k. passes test (entry_at (state w) rd level (512 * number + k)))
    (λ k. passes test (entry_at (seen_state config held) rd level (512 * number + k)))
    (λ k within.
    let over : (512 * number + k) / 512 ≡ number = omega (arith, within) in
    ap (passes test) (entry-same w g rd level (512 * number + k) (ap (table_placed held rd level) over ∙ is)))

-- so the same is left of it
pub left-same : {config : Config} {side : Side} {held : List HeldCell} (w : Whole config side held) (removal : Removal) (g rd level number : ℕ)
    → table_placed held rd level number ≡ Some g
    → ripas_left removal (state w) rd level number ≡ ripas_left removal (seen_state config held) rd level number
unfolding ripas_left
left-same {config} {side} {held} w Destroy g rd level number is =
    ap (λ (found : Bool). if found then None else Some Destroyed) (has_entry-same w g rd level number Live is)
left-same {config} {side} {held} w Fold g rd level number is =
    let e = entry_at (seen_state config held) rd level (512 * number) in
    let own : (512 * number) / 512 ≡ number = omega arith in
    rw (entry-same w g rd level (512 * number) (ap (table_placed held rd level) own ∙ is))
    (ap (λ (found : Bool). if found then None else Some (entry_ripas e)) (has_entry-same w g rd level number (Unlike e) is))
