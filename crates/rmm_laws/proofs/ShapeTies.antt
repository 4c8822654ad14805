-- A well-shaped whole is one that stands for a sound state and whose side table, tables and places are tied to it.
use Rattle.rmm_laws.proofs.ShapeCommon.{◌%◌, ◌*◌, ◌+◌, ◌/◌, ◌<◌, ◌∙◌, ◌≡◌, ◌≤◌, Bool, Cell, Config, CpuPlace, Entry, IsSound, IsTrue, List, None, Option, RealmRecord, RecRecord, Some, Table, TableRecord, ap, arith, both_ways, eqb-true, false, flat_state, if◌then◌else◌, inl, inr, is_granule, is_table, leaf_in_tables, length, none-some, option_and_then, place_number, realms_of, recs_of, refl, same_Some, slice_get, subst, suc, sym, table_granule, table_in, tables_of, tag_of, true, ℕ, value_there}
use Rattle.std.proofs.Common.{◌↔◌, ◌⊎◌, ◌||◌, is_some}
use Rattle.std.proofs.lemmas.Bool.{false≢true, or_left, or_right}
use Rattle.std.proofs.lemmas.Option.{option_and_then_some, slice_get_cases}
use Rattle.rmm_spec.specs.declared.entry.Entry.TheVariants.{Assigned}
use Rattle.rmm_spec.specs.declared.tag.Tag.TheVariants as tag
use Rattle.rmm_spec.specs.Lookup.{has_tag, runs_on, is_cpu, is_owned_by}
use Rattle.rmm_spec.specs.Walk.{table_size}
use Rattle.rmm_spec.specs.TableCells.{leaf_of}
use Rattle.rmm_spec.specs.Sound.{AreRealms, AreRecs, AreTables, AreLeaves, IsTableOf, IsLeafOf}
use Rattle.rmm_spec.specs.Shape.{Side, Inside, HoldsTable, IsPlaceOf, IsLinked, FitsPlace, AreOutside, RunsOn, IsWellShaped, count_below}
use Rattle.rmm_laws.proofs.Cells.{cell-table, tag-some_realm, tag-aux, tag-data, some_realm-tagged, some_rec-tagged, has_tag-cell, Views, views_of}
use Rattle.rmm_laws.proofs.Finds.{table_granule-holds, table_granule-some, AreFound, holds-found}

-- ---- leaves

-- where a leaf is read: an entry, no link, of the table that is found there
pub record IsLeafIn (granules : ℕ) (tables : ℕ → Option TableRecord) (rd level number : ℕ) (e : Entry) : Type 0 where
  pub granule : ℕ
  pub table : TableRecord
  pub is_found : table_granule granules tables rd level (number / 512) ≡ Some granule
  pub is_held : tables granule ≡ Some table
  pub is_entry : slice_get table.entries (number % 512) ≡ Some e
  pub is_leaf : is_table e ≡ false

leaf_of-parts : (link : Bool) (x e : Entry) → is_table x ≡ link → (if link then None else Some x) ≡ Some e → (x ≡ e) × (is_table e ≡ false)
leaf_of-parts true x e is none = absurd (none-some e none)
leaf_of-parts false x e is some = let same = same_Some x e some in (same, ap is_table (sym same) ∙ is)

pub leaf-parts : (granules : ℕ) (tables : ℕ → Option TableRecord) (rd level number : ℕ) (e : Entry)
    → leaf_in_tables granules tables rd level number ≡ Some e → IsLeafIn granules tables rd level number e
unfolding leaf_in_tables
leaf-parts granules tables rd level number e is =
    option_and_then_some _ (table_granule granules tables rd level (number / 512)) e is
    (λ granule is_found at_granule. option_and_then_some _ (tables granule) e at_granule
    (λ table is_held in_table. option_and_then_some leaf_of (slice_get table.entries (number % 512)) e in_table
    (λ x is_entry leaf. let parts = leaf_of-parts (is_table x) x e refl leaf in record {
      granule = granule;
      table = table;
      is_found = is_found;
      is_held = is_held;
      is_entry = is_entry ∙ ap Some parts.0;
      is_leaf = parts.1;
    })))

-- the entries of a table, as leaves
abbrev pub entry_leaf : List Entry → ℕ → Option Entry
entry_leaf entries i = option_and_then leaf_of (slice_get entries i)

pub leaf-found : (granules : ℕ) (tables : ℕ → Option TableRecord) (rd level number granule : ℕ) (t : TableRecord)
    → table_granule granules tables rd level (number / 512) ≡ Some granule → tables granule ≡ Some t
    → leaf_in_tables granules tables rd level number ≡ entry_leaf t.entries (number % 512)
unfolding leaf_in_tables
leaf-found granules tables rd level number granule t found held =
    ap (option_and_then (λ g. option_and_then (λ (u : TableRecord). entry_leaf u.entries (number % 512)) (tables g))) found
    ∙ ap (option_and_then (λ (u : TableRecord). entry_leaf u.entries (number % 512))) held

pub entry_leaf-some : (entries : List Entry) (i : ℕ) (e : Entry) → slice_get entries i ≡ Some e → is_table e ≡ false → entry_leaf entries i ≡ Some e
entry_leaf-some entries i e at leaf = ap (option_and_then leaf_of) at ∙ ap (λ b. if b then None else Some e) leaf

-- ---- what ties a whole's side table, tables and places to its flat state

pub record AreListed (granules : ℕ) (side : Side) (realms : ℕ → Option RealmRecord) (recs : ℕ → Option RecRecord) : Type 0 where
  pub listed : (rd : ℕ) (realm : RealmRecord) → realms rd ≡ Some realm → side.vmids realm.vmid ≡ Some rd
  pub used : (vmid rd : ℕ) → side.vmids vmid ≡ Some rd → (realm : RealmRecord) × (realms rd ≡ Some realm) × (realm.vmid ≡ vmid)
  pub counted : (rd : ℕ) → side.rec_counts rd ≡ count_below granules (λ k. is_owned_by rd (recs (k * 4096)))

-- each link leads to the table that is found at the place that it stands for
abbrev pub AreLinks : ℕ → (ℕ → Option TableRecord) → Type 0
AreLinks granules tables = (g i child : ℕ) (t : TableRecord) → tables g ≡ Some t → slice_get t.entries i ≡ Some (Table child)
    → table_granule granules tables t.place.rd (suc t.place.level) (512 * place_number t.place + i) ≡ Some child

pub record ArePlaced (granules : ℕ) (realms : ℕ → Option RealmRecord) (tables : ℕ → Option TableRecord) : Type 0 where
  pub found : AreFound granules tables
  pub widths : (g : ℕ) (t : TableRecord) (realm : RealmRecord) → tables g ≡ Some t → realms t.place.rd ≡ Some realm → t.place.width ≡ realm.width
  pub bases : (g : ℕ) (t : TableRecord) → tables g ≡ Some t → t.place.base ≡ place_number t.place * table_size t.place.level
  pub whole : (g : ℕ) (t : TableRecord) → tables g ≡ Some t → length t.entries ≡ 512

abbrev pub AreInside : (ℕ → CpuPlace) → (ℕ → Option RecRecord) → Type 0
AreInside places recs = (cpu rec rd : ℕ) → (places cpu ≡ Inside rec rd) ↔ RunsOn recs cpu rec rd

pub record IsTied (granules : ℕ) (side : Side) (places : ℕ → CpuPlace) (v : Views) : Type 0 where
  pub sides : AreListed granules side v.realms v.recs
  pub tables : ArePlaced granules v.realms v.tables
  pub links : AreLinks granules v.tables
  pub inside : AreInside places v.recs

-- ---- from the shape

-- what holds a table is a granule
table_address : (granules : ℕ) (cells : ℕ → Cell) (granule : ℕ) (t : TableRecord) → AreOutside granules cells → tables_of cells granule ≡ Some t
    → IsTrue (is_granule granules granule)
table_address granules cells granule t outside held = by (is_granule granules granule) refl
  where
    by : (b : Bool) → is_granule granules granule ≡ b → IsTrue b
    by true is = refl
    by false none = absurd (none-some t (sym (ap table_in (outside.undelegated granule none)) ∙ held))

AreFound-shaped : (config : Config) (side : Side) (places : ℕ → CpuPlace) (cells : ℕ → Cell) → IsWellShaped config side places cells
    → AreFound config.granules (tables_of cells)
AreFound-shaped config side places cells w granule t held =
    let here : HoldsTable (tables_of cells) granule t.place.rd t.place.level (place_number t.place) =
    record { table = t; is_held = held; is_realm = refl; is_level = refl; is_number = refl } in
    let found = table_granule-some config.granules (tables_of cells) t.place.rd t.place.level (place_number t.place) granule
    (table_address config.granules cells granule t w.outside held) here in
    found.1 ∙ ap Some (sym (w.tables.apart granule found.0 t held
    (table_granule-holds config.granules (tables_of cells) t.place.rd t.place.level (place_number t.place) found.0 found.1)))

pub IsTied-shaped : (config : Config) (side : Side) (places : ℕ → CpuPlace) (cells : ℕ → Cell) → IsWellShaped config side places cells
    → IsTied config.granules side places (views_of cells)
IsTied-shaped config side places cells w =
    let found = AreFound-shaped config side places cells w in
    let owner : (g : ℕ) (t : TableRecord) → tables_of cells g ≡ Some t
    → (realm : RealmRecord) × (realms_of cells t.place.rd ≡ Some realm) × IsPlaceOf realm t.place = w.tables.placed in
    record {
      sides = record { listed = w.realms.listed; used = w.realms.used; counted = w.realms.counted };
      tables = record {
        found = found;
        widths = λ g t realm held at. let its = owner g t held in
            its.2.width ∙ ap (λ (r : RealmRecord). r.width) (same_Some its.0 realm (sym its.1 ∙ at));
        bases = λ g t held. (owner g t held).2.base;
        whole = w.tables.whole;
      };
      links = λ g i child t held link. holds-found config.granules (tables_of cells) child _ _ _ found (w.tables.links g i child t held link);
      inside = w.recs.inside;
    }

-- ---- a well-shaped whole stands for a sound state

-- what is said of a table's place is said of the place that it is held for
pub at_place : {tables : ℕ → Option TableRecord} {granule rd level number : ℕ}
    (P : ℕ → ℕ → ℕ → Type 0) (held : HoldsTable tables granule rd level number)
    → P held.table.place.rd held.table.place.level (place_number held.table.place) → P rd level number
at_place {rd = rd} {level = level} {number = number} P held is =
    subst (λ a. P a level number) held.is_realm
    (subst (λ b. P held.table.place.rd b number) held.is_level
    (subst (λ c. P held.table.place.rd held.table.place.level c) held.is_number is))

realms-sound : (config : Config) (side : Side) (places : ℕ → CpuPlace) (cells : ℕ → Cell) → IsWellShaped config side places cells
    → AreRealms (flat_state config cells)
unfolding flat_state has_tag
realms-sound config side places cells w = record {
  tagged = λ g. some_realm-tagged (cells g) (is_granule config.granules g) (w.outside.undelegated g);
  spaces = w.realms.spaces;
  measured = w.realms.measured;
  apart = λ g h r q at too same. same_Some g h (sym (w.realms.listed g r at) ∙ ap side.vmids same ∙ w.realms.listed h q too);
}

-- a REC that runs on the CPU
runs_on-parts : (recs : ℕ → Option RecRecord) (cpu g : ℕ) (found : Option RecRecord) → recs g ≡ found → IsTrue (runs_on cpu found)
    → (rd : ℕ) × RunsOn recs cpu g rd
runs_on-parts recs cpu g None at runs = absurd (false≢true runs)
runs_on-parts recs cpu g (Some c) at runs = (c.owner, record { it = c; is_rec = at; is_owner = refl; is_on = on c.cpu runs })
  where
    on : (found : Option ℕ) → IsTrue (is_cpu cpu found) → found ≡ Some cpu
    on None is = absurd (false≢true is)
    on (Some other) is = ap Some (eqb-true other cpu is)

pub same_inside : (a b c d : ℕ) → Inside a b ≡ Inside c d → a ≡ c
same_inside a b c d same = cc

recs-sound : (config : Config) (side : Side) (places : ℕ → CpuPlace) (cells : ℕ → Cell) → IsWellShaped config side places cells
    → AreRecs (flat_state config cells)
unfolding flat_state has_tag
recs-sound config side places cells w = record {
  tagged = λ g. some_rec-tagged (cells g) (is_granule config.granules g) (w.outside.undelegated g);
  owned = λ g c at. has_tag-cell config cells c.owner tag.Rd w.outside (tag-some_realm (cells c.owner) (w.recs.owned g c at)) refl;
  aux0 = λ g c at. has_tag-cell config cells c.aux0 tag.RecAux w.outside (tag-aux (cells c.aux0) (w.recs.aux0 g c at)) refl;
  aux1 = λ g c at. has_tag-cell config cells c.aux1 tag.RecAux w.outside (tag-aux (cells c.aux1) (w.recs.aux1 g c at)) refl;
  two = w.recs.two;
  apart = w.recs.apart;
  alone = λ g h cpu runs too.
      let one = runs_on-parts (recs_of cells) cpu g (recs_of cells g) refl runs in
      let other = runs_on-parts (recs_of cells) cpu h (recs_of cells h) refl too in
      same_inside g one.0 h other.0 (sym ((w.recs.inside cpu g one.0).1 one.1) ∙ (w.recs.inside cpu h other.0).1 other.1);
  running = w.recs.running;
  asked = w.recs.asked;
  requests = w.recs.requests;
}

-- the table above links to this one
linked : (config : Config) (side : Side) (places : ℕ → CpuPlace) (cells : ℕ → Cell) → IsWellShaped config side places cells
    → (granule rd level number : ℕ) (r : RealmRecord) → HoldsTable (tables_of cells) granule rd (suc level) number → realms_of cells rd ≡ Some r
    → r.start_level ≤ level → IsLinked (tables_of cells) granule rd level number
linked config side places cells w granule rd level number r held realm under =
    subst (λ a. IsLinked (tables_of cells) granule a level number) held.is_realm
    (subst (λ c. IsLinked (tables_of cells) granule held.table.place.rd level c) held.is_number
    (w.tables.parents granule level held.table r held.is_held (ap (realms_of cells) held.is_realm ∙ realm) held.is_level under))

-- a table's realm
table_owner : (config : Config) (side : Side) (places : ℕ → CpuPlace) (cells : ℕ → Cell) → IsWellShaped config side places cells
    → (granule rd level number : ℕ) → HoldsTable (tables_of cells) granule rd level number
    → (r : RealmRecord) × (realms_of cells rd ≡ Some r) × IsTableOf r level number
table_owner config side places cells w granule rd level number held =
    let placed = w.tables.placed granule held.table held.is_held in
    at_place (λ a b c. (r : RealmRecord) × (realms_of cells a ≡ Some r) × IsTableOf r b c) held (placed.0, placed.1, placed.2.within)

pub same_table : (tables : ℕ → Option TableRecord) (granule : ℕ) (t u : TableRecord) → tables granule ≡ Some t → tables granule ≡ Some u → t ≡ u
same_table tables granule t u at too = same_Some t u (sym at ∙ too)

tables-sound : (config : Config) (side : Side) (places : ℕ → CpuPlace) (cells : ℕ → Cell) → IsWellShaped config side places cells
    → AreTables (flat_state config cells)
unfolding flat_state
tables-sound config side places cells w =
    let tables = tables_of cells in
    let found = AreFound-shaped config side places cells w in
    record {
      roots = λ rd r at. holds-found config.granules tables r.root rd r.start_level 0 found (w.tables.roots rd r at);
      tagged = λ rd level number granule at.
          let held = table_granule-holds config.granules tables rd level number granule at in
          has_tag-cell config cells granule tag.Rtt w.outside (ap tag_of (cell-table (cells granule) held.table held.is_held)) refl;
      owned = λ rd level number granule at. table_owner config side places cells w granule rd level number
          (table_granule-holds config.granules tables rd level number granule at);
      below = λ rd level number granule r at realm under.
          let link = linked config side places cells w granule rd level number r
          (table_granule-holds config.granules tables rd (suc level) number granule at) realm under in
          ap is_some (holds-found config.granules tables link.parent rd level (number / 512) found link.above);
      apart = λ rd level number other l n granule at too.
          let one = table_granule-holds config.granules tables rd level number granule at in
          let two = table_granule-holds config.granules tables other l n granule too in
          let same : one.table ≡ two.table = same_table tables granule one.table two.table one.is_held two.is_held in (
            sym one.is_realm ∙ ap (λ (t : TableRecord). t.place.rd) same ∙ two.is_realm,
            sym one.is_level ∙ ap (λ (t : TableRecord). t.place.level) same ∙ two.is_level,
            sym one.is_number ∙ ap (λ (t : TableRecord). place_number t.place) same ∙ two.is_number,
          );
    }

-- an entry that is no link fits its place as a leaf
fits-leaf : (e : Entry) (r : RealmRecord) (level number : ℕ) → is_table e ≡ false → FitsPlace e r level number → IsLeafOf e r level number
fits-leaf (Table granule) r level number leaf fits = both_ways refl leaf
fits-leaf _ r level number leaf fits = fits

-- an entry is a link, or none
pub link_or_leaf : (e : Entry) → ((child : ℕ) × (e ≡ Table child)) ⊎ (is_table e ≡ false)
link_or_leaf (Table granule) = inl (granule, refl)
link_or_leaf _ = inr refl

-- a table that is held at a place has its entries there
pub entry_there : (entries : List Entry) (i : ℕ) → length entries ≡ 512 → i < 512 → (e : Entry) × (slice_get entries i ≡ Some e)
entry_there entries i whole below = elim (slice_get_cases entries i).1 [
  | inl there ↦ (there.0, there.2)
  | inr past ↦ absurd (omega (arith, past.0))
]

pub number-again : (number : ℕ) → 512 * (number / 512) + number % 512 ≡ number
number-again number = omega arith

leaves-sound : (config : Config) (side : Side) (places : ℕ → CpuPlace) (cells : ℕ → Cell) → IsWellShaped config side places cells
    → AreLeaves (flat_state config cells)
unfolding flat_state
leaves-sound config side places cells w =
    let tables = tables_of cells in
    let found = AreFound-shaped config side places cells w in
    let parts : (rd level number : ℕ) (e : Entry)
    → leaf_in_tables config.granules tables rd level number ≡ Some e → IsLeafIn config.granules tables rd level number e =
    λ rd level number e at. leaf-parts config.granules tables rd level number e at in
    let holds : (rd level number granule : ℕ)
    → table_granule config.granules tables rd level number ≡ Some granule → HoldsTable tables granule rd level number =
    λ rd level number granule at. table_granule-holds config.granules tables rd level number granule at in
    record {
      placed = λ rd level number e at. ap is_some (parts rd level number e at).is_found;
      unlinked = λ rd level number e at.
          let leaf = parts rd level number e at in
          unlinked (table_granule config.granules tables rd (suc level) number) refl leaf;
      complete = λ rd level number there.
          let at = value_there (table_granule config.granules tables rd level (number / 512)) there in
          complete rd level number at.0 at.1 (holds rd level (number / 512) at.0 at.1);
      kinds = λ rd level number e r at realm.
          let leaf = parts rd level number e at in
          let held = holds rd level (number / 512) leaf.granule leaf.is_found in
          let same : leaf.table ≡ held.table = same_table tables leaf.granule leaf.table held.table leaf.is_held held.is_held in
          let fits : FitsPlace e r held.table.place.level (512 * place_number held.table.place + number % 512) =
          w.tables.kinds leaf.granule (number % 512) held.table r e held.is_held (ap (realms_of cells) held.is_realm ∙ realm)
          (ap (λ (t : TableRecord). slice_get t.entries (number % 512)) (sym same) ∙ leaf.is_entry) in
          fits-leaf e r level number leaf.is_leaf
          (subst (λ n. FitsPlace e r level n) (number-again number)
          (at_place (λ a b c. FitsPlace e r b (512 * c + number % 512)) held fits));
      pages = λ rd level number granule ripas at.
          let leaf = parts rd level number (Assigned ripas granule) at in
          has_tag-cell config cells granule tag.Data w.outside
          (tag-data (cells granule) (w.data_granules.named leaf.granule (number % 512) granule leaf.table ripas leaf.is_held leaf.is_entry)) refl;
      apart = λ rd level number other l n granule ripas ripas_too at too.
          let one = parts rd level number (Assigned ripas granule) at in
          let two = parts other l n (Assigned ripas_too granule) too in
          let same = w.data_granules.apart one.granule two.granule (number % 512) (n % 512) granule one.table two.table ripas ripas_too
          one.is_held two.is_held one.is_entry two.is_entry in
          let place = (tables-sound config side places cells w).apart rd level (number / 512) other l (n / 512) one.granule one.is_found
          (two.is_found ∙ ap Some (sym same.0)) in
          (place.0, place.1, same_number number n place.2 same.1);
    }
  where
    same_number : (a b : ℕ) → a / 512 ≡ b / 512 → a % 512 ≡ b % 512 → a ≡ b
    same_number a b up low = omega arith

    unlinked : {rd level number : ℕ} {e : Entry} (below : Option ℕ) → table_granule config.granules (tables_of cells) rd (suc level) number ≡ below
        → IsLeafIn config.granules (tables_of cells) rd level number e → below ≡ None
    unlinked None at leaf = refl
    unlinked {rd = rd} {level = level} {number = number} {e = e} (Some child) at leaf =
        let tables = tables_of cells in
        let here = table_granule-holds config.granules tables rd level (number / 512) leaf.granule leaf.is_found in
        let owner = table_owner config side places cells w leaf.granule rd level (number / 512) here in
        let link = linked config side places cells w child rd level number owner.0
        (table_granule-holds config.granules tables rd (suc level) number child at) owner.1 owner.2.below_root in
        let parent : link.parent ≡ leaf.granule =
        same_Some link.parent leaf.granule (sym (holds-found config.granules tables link.parent rd level
        (number / 512) (AreFound-shaped config side places cells w) link.above) ∙ leaf.is_found) in
        let same : link.above.table ≡ leaf.table =
        same_table tables leaf.granule link.above.table leaf.table (ap tables (sym parent) ∙ link.above.is_held) leaf.is_held in
        let entry : Some (Table child) ≡ Some e = sym link.link ∙ ap (λ (t : TableRecord). slice_get t.entries (number % 512)) same ∙ leaf.is_entry in
        both_ways (sym (ap is_table (same_Some (Table child) e entry))) leaf.is_leaf

    complete : (rd level number granule : ℕ) → table_granule config.granules (tables_of cells) rd level (number / 512) ≡ Some granule
        → HoldsTable (tables_of cells) granule rd level (number / 512)
        → IsTrue (is_some (leaf_in_tables config.granules (tables_of cells) rd level number)
        || is_some (table_granule config.granules (tables_of cells) rd (suc level) number))
    complete rd level number granule at held =
        let tables = tables_of cells in
        let below : number % 512 < 512 = omega arith in
        let entry = entry_there held.table.entries (number % 512) (w.tables.whole granule held.table held.is_held) below in
        elim (link_or_leaf entry.0) [
          | inl link ↦ or_right _ _
              (ap is_some (holds-found config.granules tables link.0 rd (suc level) number (AreFound-shaped config side places cells w)
              (subst (λ n. HoldsTable tables link.0 rd (suc level) n) (number-again number)
              (at_place (λ a b c. HoldsTable tables link.0 a (suc b) (512 * c + number % 512)) held
              (w.tables.links granule (number % 512) link.0 held.table held.is_held (entry.1 ∙ ap Some link.1))))))
          | inr leaf ↦ or_left _ _ (ap is_some (leaf-found config.granules tables rd level number granule held.table at held.is_held
              ∙ entry_leaf-some held.table.entries (number % 512) entry.0 entry.1 leaf))
        ]

pub well_shaped-is_sound : (config : Config) (side : Side) (places : ℕ → CpuPlace) (cells : ℕ → Cell) → IsWellShaped config side places cells
    → IsSound (flat_state config cells)
unfolding flat_state
well_shaped-is_sound config side places cells w = record {
  outside = λ g none. ap tag_of (w.outside.undelegated g none);
  realms = realms-sound config side places cells w;
  recs = recs-sound config side places cells w;
  tables = tables-sound config side places cells w;
  leaves = leaves-sound config side places cells w;
}
