-- A list of the tables of a well-shaped whole stands for the tables and leaves of its flat state, and a walk may start at each root.
use Rattle.spec_machine.proofs.Common.{◌%◌, ◌*◌, ◌+◌, ◌/◌, ◌<◌, ◌∙◌, ◌≡◌, ◌≤◌, Config, Entry, IsTrue, List, None, Option, RealmRecord, Some, TableRecord, ap, arith, cases_lt, entry_number, eqb-true, flat_state, inl, inr, none-some, refl, slice_get, suc, sym, table_number, zero, ℕ}
use Rattle.std.proofs.Common.{◌⊎◌}
use Rattle.std.specs.Prelude.{option_map, find}
use Rattle.std.specs.Option.{option_and_then}
use Rattle.std.proofs.lemmas.Bool.{eq-eqb}
use Rattle.rmm_spec.specs.Walk.{full}
use Rattle.rmm_spec.specs.Table.{entry_index, place_number, covers}
use Rattle.rmm_spec.specs.TableCells.{TableCell, table_in, is_table_at, flat_table, flat_leaf, leaf_of, with_tables, ArePlaced, LinksTo, IsOnPath, IsWalkable}
use Rattle.rmm_spec.specs.Cell.{Cell, realms_of, tables_of}
use Rattle.rmm_spec.specs.Flat.{table_granule, leaf_in_tables}
use Rattle.rmm_spec.specs.Shape.{Side, CpuPlace, HoldsTable, IsWellShaped}
use Rattle.spec_lemmas.proofs.WalkLaws.{table_number-suc}
use Rattle.rmm_laws.proofs.Walked.{table_number-entry, root_number}
use Rattle.spec_lemmas.proofs.FlatTables.{IsAtSpot, found_at_spot, spot_is_found}
use Rattle.rmm_laws.proofs.Finds.{table_granule-holds, holds-found}
use Rattle.rmm_laws.proofs.ShapeTies.{IsTied-shaped}

module _ (config : Config) (side : Side) (places : ℕ → CpuPlace) (cells : ℕ → Cell) (w : IsWellShaped config side places cells)
    (list : List TableCell) (placed : ArePlaced list) (same : (address : ℕ) → table_in list address ≡ tables_of cells address) where
  holds-spot : (rd level number granule : ℕ) (t : TableRecord)
      → IsAtSpot list rd level number granule t → HoldsTable (tables_of cells) granule rd level number
  holds-spot rd level number granule t spot = record {
    table = t;
    is_held = sym (same granule) ∙ spot.is_held;
    is_realm = spot.is_realm;
    is_level = spot.is_level;
    is_number = spot.is_number;
  }

  -- what is found in the list is what the state has
  found-granule : (rd level number : ℕ) (c : TableCell) → find (is_table_at rd level number) list ≡ Some c
      → table_granule config.granules (tables_of cells) rd level number ≡ Some c.granule
  found-granule rd level number c at =
      holds-found config.granules (tables_of cells) c.granule rd level number (IsTied-shaped config side places cells w).tables.found
      (holds-spot rd level number c.granule c.table (found_at_spot list rd level number c placed at))

  -- and where nothing is found, it has none
  unfound-granule : (rd level number : ℕ) → find (is_table_at rd level number) list ≡ None → (found : Option ℕ)
      → table_granule config.granules (tables_of cells) rd level number ≡ found → found ≡ None
  unfound-granule rd level number none None at = refl
  unfound-granule rd level number none (Some granule) at =
      let held = table_granule-holds config.granules (tables_of cells) rd level number granule at in
      let there = spot_is_found list rd level number granule held.table
      (record { is_held = same granule ∙ held.is_held; is_realm = held.is_realm; is_level = held.is_level; is_number = held.is_number }) in
      absurd (none-some there.0 (sym none ∙ there.1))

  flat_table-same : (rd level number : ℕ) → flat_table list rd level number ≡ table_granule config.granules (tables_of cells) rd level number
  unfolding flat_table
  flat_table-same rd level number = by (find (is_table_at rd level number) list) refl
    where
      by : (found : Option TableCell) → find (is_table_at rd level number) list ≡ found
          → option_map (λ (c : TableCell). c.granule) (find (is_table_at rd level number) list)
          ≡ table_granule config.granules (tables_of cells) rd level number
      by (Some c) at = ap (option_map (λ (c : TableCell). c.granule)) at ∙ sym (found-granule rd level number c at)
      by None at = ap (option_map (λ (c : TableCell). c.granule)) at ∙ sym (unfound-granule rd level number at _ refl)

  flat_leaf-same : (rd level number : ℕ) → flat_leaf list rd level number ≡ leaf_in_tables config.granules (tables_of cells) rd level number
  unfolding flat_leaf leaf_in_tables holds-spot
  flat_leaf-same rd level number = by (find (is_table_at rd level (number / 512)) list) refl
    where
      of_table : TableRecord → Option Entry
      of_table t = option_and_then leaf_of (slice_get t.entries (number % 512))

      by : (found : Option TableCell) → find (is_table_at rd level (number / 512)) list ≡ found
          → option_and_then (λ (c : TableCell). option_and_then leaf_of (slice_get c.table.entries (number % 512)))
          (find (is_table_at rd level (number / 512)) list)
          ≡ option_and_then (λ granule.
          option_and_then (λ (t : TableRecord). option_and_then leaf_of (slice_get t.entries (number % 512))) (tables_of cells granule))
          (table_granule config.granules (tables_of cells) rd level (number / 512))
      by (Some c) at =
          ap (option_and_then (λ (c : TableCell). option_and_then leaf_of (slice_get c.table.entries (number % 512)))) at
          ∙ sym (ap (option_and_then (λ granule.
          option_and_then (λ (t : TableRecord). option_and_then leaf_of (slice_get t.entries (number % 512))) (tables_of cells granule)))
          (found-granule rd level (number / 512) c at)
          ∙ ap (option_and_then (λ (t : TableRecord). option_and_then leaf_of (slice_get t.entries (number % 512))))
          (holds-spot rd level (number / 512) c.granule c.table (found_at_spot list rd level (number / 512) c placed at)).is_held)
      by None at =
          ap (option_and_then (λ (c : TableCell). option_and_then leaf_of (slice_get c.table.entries (number % 512)))) at
          ∙ sym (ap (option_and_then (λ granule.
          option_and_then (λ (t : TableRecord). option_and_then leaf_of (slice_get t.entries (number % 512))) (tables_of cells granule)))
          (unfound-granule rd level (number / 512) at _ refl))

  pub with_tables-same : with_tables (flat_state config cells) list ≡ flat_state config cells
  unfolding flat_state
  with_tables-same = λ i. record (flat_state config cells) {
    table = λ rd level number. flat_table-same rd level number i;
    leaf = λ rd level number. flat_leaf-same rd level number i;
  }

  -- ---- where a walk may start

  -- a table that covers the address is the one of its number
  over : (t : TableRecord) (ipa : ℕ) → IsTrue (covers t.place ipa) → table_number t.place.level ipa ≡ place_number t.place
  unfolding covers
  over t ipa is = eqb-true (table_number t.place.level ipa) (place_number t.place) is

  is_over : (t : TableRecord) (ipa : ℕ) → table_number t.place.level ipa ≡ place_number t.place → IsTrue (covers t.place ipa)
  unfolding covers
  is_over t ipa is = eq-eqb (table_number t.place.level ipa) (place_number t.place) is

  -- the entry of a table that covers the address has the number of the table below
  below-number : (t : TableRecord) (ipa level : ℕ)
      → level ≡ suc t.place.level → t.place.level ≤ 3 → table_number t.place.level ipa ≡ place_number t.place
      → table_number level ipa ≡ 512 * place_number t.place + entry_index t.place.level ipa
  unfolding entry_index
  below-number t ipa level next last covers =
      let entry : table_number level ipa ≡ entry_number t.place.level ipa = ap (λ l. table_number l ipa) next ∙ table_number-suc t.place.level ipa in
      let up : table_number t.place.level ipa ≡ entry_number t.place.level ipa / 512 = table_number-entry t.place.level ipa last in
      omega (arith, entry, up, covers)

  module _ (rd ipa max : ℕ) (r : RealmRecord) (realm : realms_of cells rd ≡ Some r) (within : r.start_level ≤ max) (inside : ipa < full r) where
    root : HoldsTable (tables_of cells) r.root rd r.start_level 0
    root = w.tables.roots rd r realm

    -- what a table of the path has
    path-held : (granule : ℕ) (t : TableRecord)
        → IsOnPath list root.table.place.rd root.table.place.level ipa granule t → tables_of cells granule ≡ Some t
    path-held granule t path = sym (same granule) ∙ path.is_held

    path-realm : (granule : ℕ) (t : TableRecord)
        → IsOnPath list root.table.place.rd root.table.place.level ipa granule t → realms_of cells t.place.rd ≡ Some r
    path-realm granule t path = ap (realms_of cells) (path.is_realm ∙ root.is_realm) ∙ realm

    path-last : (granule : ℕ) (t : TableRecord) → IsOnPath list root.table.place.rd root.table.place.level ipa granule t → t.place.level ≤ 3
    path-last granule t path = (w.tables.placed granule t (path-held granule t path)).2.within.last

    -- a link leads to the next table of the path
    path-link : (granule next : ℕ) (t : TableRecord) → IsOnPath list root.table.place.rd root.table.place.level ipa granule t → LinksTo t ipa next
        → (u : TableRecord) × IsOnPath list root.table.place.rd root.table.place.level ipa next u × (u.place.level ≡ suc t.place.level)
    path-link granule next t path link =
        let child = w.tables.links granule (entry_index t.place.level ipa) next t (path-held granule t path) link in
        let u = child.table in
        let numbers = below-number t ipa u.place.level child.is_level (path-last granule t path) (over t ipa path.is_over) in (
          u,
          record {
            is_held = same next ∙ child.is_held;
            is_realm = child.is_realm ∙ path.is_realm;
            is_below = omega (arith, child.is_level, path.is_below);
            is_over = is_over u ipa (numbers ∙ sym child.is_number);
          },
          child.is_level,
        )

    -- a table at the root's level is the root
    path-top : (granule : ℕ) (t : TableRecord)
        → IsOnPath list root.table.place.rd root.table.place.level ipa granule t → t.place.level ≡ root.table.place.level
        → granule ≡ r.root
    path-top granule t path top =
        let at_start : t.place.level ≡ r.start_level = top ∙ root.is_level in
        let number : place_number t.place ≡ 0 =
        sym (over t ipa path.is_over) ∙ ap (λ l. table_number l ipa) at_start ∙ root_number r (w.realms.spaces rd r realm) ipa inside in
        sym (w.tables.apart r.root granule root.table root.is_held
        (record { table = t; is_held = path-held granule t path; is_realm = path.is_realm; is_level = top; is_number = number ∙ sym root.is_number }))

    -- one below it is linked from the table above
    path-above : (granule above : ℕ) (t : TableRecord)
        → IsOnPath list root.table.place.rd root.table.place.level ipa granule t → t.place.level ≡ suc above
        → root.table.place.level ≤ above
        → (g : ℕ) × (u : TableRecord) × IsOnPath list root.table.place.rd root.table.place.level ipa g u × LinksTo u ipa granule
    unfolding entry_index
    path-above granule above t path next under =
        let last = path-last granule t path in
        let start : r.start_level ≤ above = omega (arith, under, root.is_level) in
        let link = w.tables.parents granule above t r (path-held granule t path) (path-realm granule t path) next start in
        let u = link.above.table in
        let number : place_number t.place ≡ entry_number above ipa =
        sym (over t ipa path.is_over) ∙ ap (λ l. table_number l ipa) next ∙ table_number-suc above ipa in
        let up : table_number above ipa ≡ entry_number above ipa / 512 = table_number-entry above ipa (omega (arith, last, next)) in
        let covers : table_number u.place.level ipa ≡ place_number u.place =
        ap (λ l. table_number l ipa) link.above.is_level ∙ up ∙ ap (λ n. n / 512) (sym number) ∙ sym link.above.is_number in
        let index : entry_number u.place.level ipa % 512 ≡ place_number t.place % 512 =
        ap (λ l. entry_number l ipa % 512) link.above.is_level ∙ ap (λ n. n % 512) (sym number) in (
          link.parent,
          u,
          record {
            is_held = same link.parent ∙ link.above.is_held;
            is_realm = link.above.is_realm ∙ path.is_realm;
            is_below = omega (arith, link.above.is_level, under);
            is_over = is_over u ipa covers;
          },
          ap (slice_get u.entries) index ∙ link.link,
        )

    path-linked : (granule : ℕ) (t : TableRecord) → IsOnPath list root.table.place.rd root.table.place.level ipa granule t
        → (granule ≡ r.root)
        ⊎ ((above : ℕ) × (u : TableRecord) × IsOnPath list root.table.place.rd root.table.place.level ipa above u × LinksTo u ipa granule)
    path-linked granule t path = by t.place.level refl (cases_lt root.table.place.level t.place.level)
      where
        by : (level : ℕ) → t.place.level ≡ level → (root.table.place.level < t.place.level) ⊎ (t.place.level ≤ root.table.place.level)
            → (granule ≡ r.root)
            ⊎ ((above : ℕ) × (u : TableRecord) × IsOnPath list root.table.place.rd root.table.place.level ipa above u × LinksTo u ipa granule)
        by level at (inr top) = inl (path-top granule t path (omega (arith, top, path.is_below)))
        by zero at (inl lower) = absurd (omega (arith, lower, at))
        by (suc above) at (inl lower) = inr (path-above granule above t path at (omega (arith, lower, at)))

    pub walkable-root : IsWalkable list r.root ipa max
    walkable-root = record {
      table = root.table;
      is_root = record {
        is_held = same r.root ∙ root.is_held;
        is_realm = refl;
        is_below = omega arith;
        is_over = is_over root.table ipa
            (ap (λ l. table_number l ipa) root.is_level ∙ root_number r (w.realms.spaces rd r realm) ipa inside ∙ sym root.is_number);
      };
      within = omega (arith, within, root.is_level);
      levels = path-last;
      links = path-link;
      linked = path-linked;
    }

    -- the root's table is of the realm
    pub root-table : (t : TableRecord) × (table_in list r.root ≡ Some t) × (t.place.rd ≡ rd)
    root-table = (root.table, same r.root ∙ root.is_held, root.is_realm)
