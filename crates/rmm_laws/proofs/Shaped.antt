-- A whole that stands for a sound state, and is tied to it, is well shaped.
use Rattle.rmm_laws.proofs.ShapeCommon.{◌%◌, ◌*◌, ◌+◌, ◌/◌, ◌<◌, ◌∙◌, ◌≡◌, ◌≤◌, Cell, Config, CpuPlace, Entry, IsSound, Option, RealmRecord, Some, Table, TableRecord, ap, arith, both_ways, false, flat_state, inl, inr, is_table, leaf_in_tables, place_number, realms_of, recs_of, refl, same_Some, slice_get, subst, suc, sym, table_granule, tables_of, ℕ, value_there}
use Rattle.std.proofs.lemmas.Option.{slice_get_within}
use Rattle.rmm_spec.specs.declared.entry.Entry.TheVariants.{Assigned}
use Rattle.rmm_spec.specs.declared.tag.Ripas.{Ripas}
use Rattle.rmm_spec.specs.declared.tag.Tag.TheVariants as tag
use Rattle.rmm_spec.specs.Sound.{IsLeafOf}
use Rattle.rmm_spec.specs.Cell.{is_aux, is_data, auxes_of, datas_of}
use Rattle.rmm_spec.specs.Shape.{Side, HoldsTable, IsPlaceOf, IsLinked, FitsPlace, AreTableCells, AreDataCells, AreRecCells, IsWellShaped}
use Rattle.rmm_laws.proofs.Cases.{nothing_there}
use Rattle.rmm_laws.proofs.Cells.{cell-undelegated, cell-aux, cell-data, tag-cell, views_of}
use Rattle.rmm_laws.proofs.Finds.{table_granule-holds, holds-found}
use Rattle.rmm_laws.proofs.ShapeTies.{leaf-found, entry_leaf-some, link_or_leaf, entry_there, number-again, at_place, ArePlaced, IsTied}

-- an entry's number, its table's and its place there
number_in : (number i : ℕ) → i < 512 → ((512 * number + i) / 512 ≡ number) × ((512 * number + i) % 512 ≡ i)
number_in number i below = (omega arith, omega arith)

-- an entry of a table that is no link is the leaf of its place
leaf_at : (granules : ℕ) (realms : ℕ → Option RealmRecord) (tables : ℕ → Option TableRecord) → ArePlaced granules realms tables
    → (g i : ℕ) (t : TableRecord) (e : Entry) → tables g ≡ Some t → slice_get t.entries i ≡ Some e → is_table e ≡ false
    → leaf_in_tables granules tables t.place.rd t.place.level (512 * place_number t.place + i) ≡ Some e
leaf_at granules realms tables placed g i t e held entry leaf =
    let below : i < 512 = subst (λ n. i < n) (placed.whole g t held) (slice_get_within t.entries i e entry) in
    let again = number_in (place_number t.place) i below in
    leaf-found granules tables t.place.rd t.place.level (512 * place_number t.place + i) g t
    (ap (λ n. table_granule granules tables t.place.rd t.place.level n) again.0 ∙ placed.found g t held) held
    ∙ entry_leaf-some t.entries ((512 * place_number t.place + i) % 512) e (ap (slice_get t.entries) again.1 ∙ entry) leaf

-- a leaf fits its place
fits_place : (e : Entry) (r : RealmRecord) (level number : ℕ) → is_table e ≡ false → IsLeafOf e r level number → FitsPlace e r level number
fits_place (Table granule) r level number leaf fits = both_ways refl leaf
fits_place _ r level number leaf fits = fits

tables_shaped : (config : Config) (side : Side) (places : ℕ → CpuPlace) (cells : ℕ → Cell) → IsSound (flat_state config cells)
    → IsTied config.granules side places (views_of cells) → AreTableCells (realms_of cells) (tables_of cells)
unfolding flat_state
tables_shaped config side places cells sound tied = record {
  roots = λ rd realm at. table_granule-holds config.granules tables rd realm.start_level 0 realm.root (sound.tables.roots rd realm at);
  placed = λ g t held. owner g t held;
  whole = tied.tables.whole;
  parents = λ g above t realm held of_realm is_level under.
      let there : table_granule config.granules tables t.place.rd (suc above) (place_number t.place) ≡ Some g =
      ap (λ l. table_granule config.granules tables t.place.rd l (place_number t.place)) (sym is_level) ∙ tied.tables.found g t held in
      let parent = value_there (table_granule config.granules tables t.place.rd above (place_number t.place / 512))
      (sound.tables.below t.place.rd above (place_number t.place) g realm there of_realm under) in
      parent_of t.place.rd above (place_number t.place) g there parent.0
      (table_granule-holds config.granules tables t.place.rd above (place_number t.place / 512) parent.0 parent.1);
  links = λ g i child t held link. table_granule-holds config.granules tables t.place.rd
      (suc t.place.level) (512 * place_number t.place + i) child (tied.links g i child t held link);
  apart = λ g h t held other. same_Some g h (sym (tied.tables.found g t held)
      ∙ holds-found config.granules tables h t.place.rd t.place.level (place_number t.place) tied.tables.found other);
  kinds = λ g i t realm e held of_realm entry. elim (link_or_leaf e) [
    | inl link ↦ subst (λ x. FitsPlace x realm t.place.level (512 * place_number t.place + i)) (sym link.1)
        (let below = sound.tables.owned t.place.rd (suc t.place.level)
        (512 * place_number t.place + i) link.0 (tied.links g i link.0 t held (entry ∙ ap Some link.1)) in
        let last : suc t.place.level ≤ 3 = below.2.last in omega arith)
    | inr leaf ↦ fits_place e realm t.place.level (512 * place_number t.place + i) leaf
        (sound.leaves.kinds t.place.rd t.place.level (512 * place_number t.place + i) e realm
        (leaf_at config.granules (realms_of cells) tables tied.tables g i t e held entry leaf) of_realm)
  ];
}
  where
    tables : ℕ → Option TableRecord
    tables = tables_of cells

    owner : (g : ℕ) (t : TableRecord) → tables_of cells g ≡ Some t
        → (realm : RealmRecord) × (realms_of cells t.place.rd ≡ Some realm) × IsPlaceOf realm t.place
    owner g t held =
        let its = sound.tables.owned t.place.rd t.place.level (place_number t.place) g (tied.tables.found g t held) in
        (its.0, its.1, record { width = tied.tables.widths g t its.0 held its.1; within = its.2; base = tied.tables.bases g t held })

    parent_of : (rd above number g : ℕ) → table_granule config.granules (tables_of cells) rd (suc above) number ≡ Some g → (parent : ℕ)
        → HoldsTable (tables_of cells) parent rd above (number / 512) → IsLinked (tables_of cells) g rd above number
    parent_of rd above number g there parent held =
        let below : number % 512 < 512 = omega arith in
        let entry = entry_there held.table.entries (number % 512) (tied.tables.whole parent held.table held.is_held) below in
        elim (link_or_leaf entry.0) [
          | inl link ↦ (let leads : table_granule config.granules (tables_of cells) rd (suc above) number ≡ Some link.0 =
              subst (λ n. table_granule config.granules (tables_of cells) rd (suc above) n ≡ Some link.0) (number-again number)
              (at_place (λ a b c. table_granule config.granules (tables_of cells) a (suc b) (512 * c + number % 512) ≡ Some link.0) held
              (tied.links parent (number % 512) link.0 held.table held.is_held (entry.1 ∙ ap Some link.1))) in
              record {
                parent = parent;
                above = held;
                link = entry.1 ∙ ap Some link.1 ∙ ap (λ x. Some (Table x)) (same_Some link.0 g (sym leads ∙ there));
              })
          | inr leaf ↦ nothing_there
              (sound.leaves.unlinked rd above number entry.0
              (leaf-found config.granules (tables_of cells) rd above number parent held.table
              (holds-found config.granules (tables_of cells) parent rd above (number / 512) tied.tables.found held) held.is_held
              ∙ entry_leaf-some held.table.entries (number % 512) entry.0 entry.1 leaf)) there
        ]

data_shaped : (config : Config) (side : Side) (places : ℕ → CpuPlace) (cells : ℕ → Cell) → IsSound (flat_state config cells)
    → IsTied config.granules side places (views_of cells) → AreDataCells (tables_of cells) (datas_of cells)
unfolding flat_state
data_shaped config side places cells sound tied =
    let tables = tables_of cells in
    let leaf : (g i page : ℕ) (t : TableRecord) (ripas : Ripas) → tables g ≡ Some t → slice_get t.entries i ≡ Some (Assigned ripas page)
    → leaf_in_tables config.granules tables t.place.rd t.place.level (512 * place_number t.place + i) ≡ Some (Assigned ripas page) =
    λ g i page t ripas held entry. leaf_at config.granules (realms_of cells) tables tied.tables g i t (Assigned ripas page) held entry refl in
    record {
      named = λ g i page t ripas held entry.
          ap is_data (cell-data (cells page)
          (tag-cell config cells page tag.Data
          (sound.leaves.pages t.place.rd t.place.level (512 * place_number t.place + i) page ripas (leaf g i page t ripas held entry))));
      apart = λ g h i j page t u ripas other held held_too entry entry_too.
          let place =
          sound.leaves.apart t.place.rd t.place.level (512 * place_number t.place + i) u.place.rd u.place.level (512 * place_number u.place + j)
          page ripas other (leaf g i page t ripas held entry) (leaf h j page u other held_too entry_too) in
          let i_below : i < 512 = subst (λ n. i < n) (tied.tables.whole g t held) (slice_get_within t.entries i (Assigned ripas page) entry) in
          let j_below : j < 512 =
          subst (λ n. j < n) (tied.tables.whole h u held_too) (slice_get_within u.entries j (Assigned other page) entry_too) in
          let one = number_in (place_number t.place) i i_below in
          let two = number_in (place_number u.place) j j_below in
          let number : place_number t.place ≡ place_number u.place = sym one.0 ∙ ap (λ n. n / 512) place.2 ∙ two.0 in (
            same_Some g h (sym (tied.tables.found g t held)
                ∙ (λ k. table_granule config.granules tables (place.0 k) (place.1 k) (number k)) ∙ tied.tables.found h u held_too),
            sym one.1 ∙ ap (λ n. n % 512) place.2 ∙ two.1,
          );
    }

recs_shaped : (config : Config) (side : Side) (places : ℕ → CpuPlace) (cells : ℕ → Cell) → IsSound (flat_state config cells)
    → IsTied config.granules side places (views_of cells) → AreRecCells places (realms_of cells) (recs_of cells) (auxes_of cells)
unfolding flat_state
recs_shaped config side places cells sound tied = record {
  owned = λ g c at. sound.realms.tagged c.owner ∙ sound.recs.owned g c at;
  aux0 = λ g c at. ap is_aux (cell-aux (cells c.aux0) (tag-cell config cells c.aux0 tag.RecAux (sound.recs.aux0 g c at)));
  aux1 = λ g c at. ap is_aux (cell-aux (cells c.aux1) (tag-cell config cells c.aux1 tag.RecAux (sound.recs.aux1 g c at)));
  two = sound.recs.two;
  apart = sound.recs.apart;
  requests = sound.recs.requests;
  running = sound.recs.running;
  asked = sound.recs.asked;
  inside = tied.inside;
}

pub IsWellShaped-tied : (config : Config) (side : Side) (places : ℕ → CpuPlace) (cells : ℕ → Cell) → IsSound (flat_state config cells)
    → IsTied config.granules side places (views_of cells) → IsWellShaped config side places cells
unfolding flat_state
IsWellShaped-tied config side places cells sound tied = record {
  realms = record {
    spaces = sound.realms.spaces;
    measured = sound.realms.measured;
    listed = tied.sides.listed;
    used = tied.sides.used;
    counted = tied.sides.counted;
  };
  tables = tables_shaped config side places cells sound tied;
  data_granules = data_shaped config side places cells sound tied;
  recs = recs_shaped config side places cells sound tied;
  outside = record { undelegated = λ g none. cell-undelegated (cells g) (sound.outside g none) };
}
