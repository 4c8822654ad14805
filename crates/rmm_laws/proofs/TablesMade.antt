-- A table is put in below an entry of another, or is taken out.
use Rattle.rmm_laws.proofs.ShapeCommon.{◌%◌, ◌*◌, ◌+◌, ◌-◌, ◌/◌, ◌<◌, ◌==◌, ◌∙◌, ◌≡◌, Bool, Cell, Config, Delegated, Entry, IsShaped, List, None, Option, RealmRecord, Rtt, Some, State, Table, TableRecord, Whole, ap, arith, both_ways, by_address, cells_changed, changed, eq-eqb, eqb-true, false, false_from_ne_true, flat_state, if◌then◌else◌, is_same_table, is_table, leaf_in_tables, length, none-some, place_number, places_changed, put, put-elsewhere, realm_at, realm_in, realm_there, realms_of, rec_in, recs_of, refl, same_Some, side_changed, slice_get, spot_hit, subst, suc, sym, table_granule, table_in, tables_of, tags_of, true, zero, ℕ, value_there}
use Rattle.std.proofs.Common.{replicate, is_some, slice_set, ne_eqb, mul-div_cancel}
use Rattle.std.proofs.lemmas.List.{length-set, length-replicate}
use Rattle.std.proofs.lemmas.Nat.{pow_pos}
use Rattle.std.proofs.lemmas.Option.{slice_get_within}
use Rattle.rmm_spec.specs.declared.change.Change.TheVariants.{TableMade, TableDestroyed}
use Rattle.rmm_spec.specs.declared.tag.Tag.TheVariants as tag
use Rattle.rmm_spec.specs.Update.{is_same_entry}
use Rattle.rmm_spec.specs.Walk.{table_size, table_number, entry_at}
use Rattle.rmm_spec.specs.Applicable.{CanMakeTable, CanDestroyTable}
use Rattle.spec_lemmas.proofs.TagLaws.{granule_from_tag}
use Rattle.rmm_laws.proofs.Cases.{choice, left_of}
use Rattle.rmm_laws.proofs.Entries.{leaf_there, fitting_leaf}
use Rattle.rmm_laws.specs.Whole.{cell_with_entries, cells_with_entries, cells_with_table, changed_at, width_in, copied_table}
use Rattle.rmm_laws.proofs.Cells.{views_of, views_put, views_of-put, IsAt-cell, cell-table}
use Rattle.rmm_laws.proofs.EntriesSet.{with_entries, no_link-child, set_links, leaf-set_here, leaf-set_elsewhere}
use Rattle.rmm_laws.proofs.Finds.{AreFound, IsPlaced, same_place, table_granule-holds, table_granule-kept, table_granule-taken}
use Rattle.rmm_laws.proofs.ShapeKept.{Makes, delegated_there, views_put-table}
use Rattle.rmm_laws.proofs.Leaves.{CanPutIn, table-put, leaf-put, table-put_keeps, AreFound-entries, ArePlaced-entries, ArePlaced-put, leaf-taken, table-taken_keeps, ArePlaced-taken}
use Rattle.rmm_laws.proofs.Slices.{slice_get-set_same, slice_get-set_other, slice_get-copies, copies-all, entry_leaf-link}
use Rattle.rmm_laws.proofs.ShapeTies.{entry_leaf, number-again, ArePlaced, IsTied-shaped, well_shaped-is_sound, entry_leaf-some}
use Rattle.spec_lemmas.proofs.Maps.{put-same}

-- ---- the table above

-- a table's entries are changed in its cell
pub views_of-entries : (cells : ℕ → Cell) (granule : ℕ) (t : TableRecord) (change : List Entry → List Entry) → cells granule ≡ Rtt t
    → views_of (changed_at cells granule (cell_with_entries change))
    ≡ record (views_of cells) { tables = put (tables_of cells) granule (Some (with_entries t (change t.entries))) }
views_of-entries cells granule t change is =
    ap (λ c. views_of (put cells granule (cell_with_entries change c))) is
    ∙ views_of-put cells granule (Rtt (with_entries t (change t.entries)))
    ∙ views_put-table (views_of cells) granule t (with_entries t (change t.entries)) (IsAt-cell cells granule (Rtt t) is)

-- the table above an entry: where it is, and that it has the entry
pub record IsAbove (granules : ℕ) (tables : ℕ → Option TableRecord) (rd level number above : ℕ) (t : TableRecord) : Type 0 where
  pub is_found : table_granule granules tables rd level (number / 512) ≡ Some above
  pub is_held : tables above ≡ Some t
  pub placed : IsPlaced t rd level (number / 512)
  pub below : number % 512 < length t.entries

above_is : (granules : ℕ) (realms : ℕ → Option RealmRecord) (tables : ℕ → Option TableRecord) (rd level number above : ℕ)
    → ArePlaced granules realms tables
    → table_granule granules tables rd level (number / 512) ≡ Some above → (t : TableRecord) × IsAbove granules tables rd level number above t
above_is granules realms tables rd level number above placed found =
    let held = table_granule-holds granules tables rd level (number / 512) above found in (
      held.table,
      record {
        is_found = found;
        is_held = held.is_held;
        placed = record { is_realm = held.is_realm; is_level = held.is_level; is_number = held.is_number };
        below = (let low : number % 512 < 512 = omega arith in subst (λ n. number % 512 < n) (sym (placed.whole above held.table held.is_held)) low);
      },
    )

-- the entry's number at its level
above_number : (t : TableRecord) (rd level number : ℕ) → IsPlaced t rd level (number / 512) → 512 * place_number t.place + number % 512 ≡ number
above_number t rd level number placed = ap (λ n. 512 * n + number % 512) placed.is_number ∙ number-again number

-- the new table's place
copied_place : (rd level number width : ℕ) (entry : Entry) → IsPlaced (copied_table rd level number width entry) rd level number
unfolding place_number table_number table_size
copied_place rd level number width entry =
    record { is_realm = refl; is_level = refl; is_number = mul-div_cancel number (pow_pos (12 + 9 * (4 - level))) }

-- the leaves above and below the link
level_up : (rd up number other l n : ℕ) → is_same_entry rd (suc up) number other (l + 1) n ≡ false → is_same_entry rd up number other l n ≡ false
level_up rd up number other l n miss =
    false_from_ne_true _ (λ hit. spot_hit rd up number other l n hit (λ here at first.
    both_ways (same_place rd (suc up) number other (l + 1) n here (let next : l + 1 ≡ suc up = omega (arith, at) in next) first) miss))

-- ---- made

pub Makes-table_made : (config : Config) (w : Whole) (rd level number rtt : ℕ) (entry : Entry) → IsShaped config w
    → CanMakeTable (flat_state config w.cells) rd level number rtt entry → Makes config w (TableMade rd level number rtt entry)
unfolding changed cells_changed side_changed places_changed flat_state
Makes-table_made config w rd zero number rtt entry shaped can = absurd (omega (arith, can.below_root))
Makes-table_made config w rd (suc up) number rtt entry shaped can =
    let s : State = flat_state config w.cells in
    let cells = w.cells in
    let tables = tables_of cells in
    let sound = well_shaped-is_sound config w.side w.places w.cells shaped in
    let old = IsTied-shaped config w.side w.places w.cells shaped in
    let back : suc up - 1 ≡ up = omega arith in
    let parent = value_there (table_granule config.granules tables rd (suc up - 1) (number / 512)) can.parent in
    let above : ℕ = parent.0 in
    let found_up : table_granule config.granules tables rd up (number / 512) ≡ Some above =
    ap (λ l. table_granule config.granules tables rd l (number / 512)) (sym back) ∙ parent.1 in
    let is_above = above_is config.granules (realms_of cells) tables rd up number above old.tables found_up in
    let t : TableRecord = is_above.0 in
    let its = is_above.1 in
    let is_entry : entry ≡ entry_at s rd up number = subst (λ l. entry ≡ entry_at s rd l number) back can.is_entry in
    let leaf : leaf_in_tables config.granules tables rd up number ≡ Some entry =
    leaf_there s sound rd up number (ap is_some found_up) (sym (ap is_table is_entry) ∙ can.leaf) ∙ ap Some (sym is_entry) in
    let above_cell : cells above ≡ Rtt t = cell-table (cells above) t its.is_held in
    let rtt_cell : cells rtt ≡ Delegated = delegated_there config cells rtt can.rtt_tag in
    let free : tables rtt ≡ None = ap table_in rtt_cell in
    let apart : (rtt == above) ≡ false = false_from_ne_true _ (λ same. none-some t (sym free ∙ ap tables (eqb-true rtt above same) ∙ its.is_held)) in
    let u : TableRecord = with_entries t (slice_set t.entries (number % 512) (Table rtt)) in
    let new : TableRecord = copied_table rd (suc up) number (width_in (cells above)) entry in
    let one : ℕ → Option TableRecord = put tables above (Some u) in
    let kept : (other l n : ℕ) → table_granule config.granules one other l n ≡ table_granule config.granules tables other l n =
    λ other l n i. table_granule-kept config.granules tables above t u its.is_held refl i other l n in
    let first : views_of (changed_at cells above (cell_with_entries (λ entries. slice_set entries (number % 512) (Table rtt))))
    ≡ record (views_of cells) { tables = one } =
    views_of-entries cells above t (λ entries. slice_set entries (number % 512) (Table rtt)) above_cell in
    let can_put : CanPutIn config.granules one rtt new rd (suc up) number = record {
      within = granule_from_tag s rtt tag.Delegated can.rtt_tag;
      free = put-elsewhere tables above (Some u) rtt apart ∙ free;
      placed = copied_place rd (suc up) number (width_in (cells above)) entry;
      new = kept rd (suc up) number ∙ sound.leaves.unlinked rd up number entry leaf;
    } in
    record {
      views = record {
        tags = put (tags_of cells) rtt tag.Rtt;
        realms = realms_of cells;
        recs = recs_of cells;
        tables = put one rtt (Some new);
      };
      seen = ap (λ found. views_of (cells_with_table cells rd (suc up) number rtt entry found)) parent.1
          ∙ views_of-put (changed_at cells above (cell_with_entries (λ entries. slice_set entries (number % 512) (Table rtt)))) rtt (Rtt new)
          ∙ ap (λ v. views_put v rtt (Rtt new)) first
          ∙ (λ i. record {
            tags = put (tags_of cells) rtt tag.Rtt;
            realms = put-same (realms_of cells) rtt None (ap realm_in rtt_cell) i;
            recs = put-same (recs_of cells) rtt None (ap rec_in rtt_cell) i;
            tables = put one rtt (Some new);
          });
      flat = λ i. record {
        config = config;
        tag = put (tags_of cells) rtt tag.Rtt;
        realm = realms_of cells;
        rec = recs_of cells;
        table = λ other l n. (table-put config.granules one rtt new rd (suc up) number can_put other l n
            ∙ ap (λ x. if is_same_table rd (suc up) number other l n then Some rtt else x) (kept other l n)) i;
        leaf = λ other l n. (leaf-put config.granules one rtt new rd (suc up) number can_put other l n
            ∙ leaves t its can.leaf old.tables.found other l n (is_same_table rd (suc up) number other l (n / 512))) i;
      };
      tied = record {
        sides = old.sides;
        tables = ArePlaced-put config.granules (realms_of cells) one rtt new rd (suc up) number
            (ArePlaced-entries config.granules (realms_of cells) tables above t u old.tables its.is_held refl
            (length-set t.entries (number % 512) (Table rtt) ∙ old.tables.whole above t its.is_held))
            can_put
            (record {
              width = λ realm at. ap width_in above_cell
                  ∙ old.tables.widths above t realm its.is_held (ap (realms_of cells) its.placed.is_realm ∙ at);
              base = sym (ap (λ n. n * table_size (suc up)) (copied_place rd (suc up) number (width_in (cells above)) entry).is_number);
              whole = length-replicate 512 entry;
            });
        links = λ g i child x. by_address (λ o. o ≡ Some x → slice_get x.entries i ≡ Some (Table child)
            → table_granule config.granules (put one rtt (Some new)) x.place.rd (suc x.place.level) (512 * place_number x.place + i) ≡ Some child)
            g rtt (Some new) (one g) (λ _ is link. no_link-child entry child can.leaf
            (copies-all 512 entry i (Table child) (ap (λ (v : TableRecord). slice_get v.entries i) (same_Some new x is) ∙ link)))
            (λ _. by_address (λ o. o ≡ Some x → slice_get x.entries i ≡ Some (Table child)
            → table_granule config.granules (put one rtt (Some new)) x.place.rd (suc x.place.level) (512 * place_number x.place + i) ≡ Some child)
            g above (Some u) (tables g) (λ _ is link.
            let same : u ≡ x = same_Some u x is in
            subst (λ (v : TableRecord).
            table_granule config.granules (put one rtt (Some new)) v.place.rd (suc v.place.level) (512 * place_number v.place + i) ≡ Some child) same
            (above_links t its can_put old.links i child (i == number % 512) refl (ap (λ (v : TableRecord). slice_get v.entries i) same ∙ link)))
            (λ _ is link. table-put_keeps config.granules one rtt new rd
            (suc up) number can_put x.place.rd (suc x.place.level) (512 * place_number x.place + i) child
            (kept x.place.rd (suc x.place.level) (512 * place_number x.place + i) ∙ old.links g i child x is link)));
        inside = old.inside;
      };
    }
  where
    leaves : {above : ℕ} (t : TableRecord) → IsAbove config.granules (tables_of w.cells) rd up number above t
        → is_table entry ≡ false → AreFound config.granules (tables_of w.cells)
        → (other l n : ℕ) (b : Bool)
        → (if b then entry_leaf (replicate 512 entry) (n % 512)
        else leaf_in_tables config.granules
        (put (tables_of w.cells) above (Some (with_entries t (slice_set t.entries (number % 512) (Table rtt))))) other l n)
        ≡ (if b then Some entry
        else (if is_same_entry rd (suc up) number other (l + 1) n then None else leaf_in_tables config.granules (tables_of w.cells) other l n))
    leaves t its leaf found other l n true =
        entry_leaf-some (replicate 512 entry) (n % 512) entry (slice_get-copies 512 entry (n % 512) (omega arith)) leaf
    leaves {above} t its leaf found other l n false =
        let now =
        leaf_in_tables config.granules (put (tables_of w.cells) above (Some (with_entries t (slice_set t.entries (number % 512) (Table rtt))))) in
        choice (λ x. now other l n ≡ x) _ (is_same_entry rd (suc up) number other (l + 1) n) None
        (leaf_in_tables config.granules (tables_of w.cells) other l n) refl
        (λ hit. spot_hit rd (suc up) number other (l + 1) n hit (λ here next first.
        let at : l ≡ up = omega (arith, next) in
        (λ i. now (here i) (at i) (first i))
        ∙ leaf-set_here config.granules (tables_of w.cells) above t rd up number (Table rtt) found its.is_held its.placed
        ∙ entry_leaf-link (slice_set t.entries (number % 512) (Table rtt)) (number % 512) rtt
        (slice_get-set_same t.entries (number % 512) (Table rtt) its.below)))
        (λ miss. leaf-set_elsewhere config.granules (tables_of w.cells) above t rd up number
        (Table rtt) found its.is_held its.placed other l n (level_up rd up number other l n miss))

    above_links : {above width : ℕ} (t : TableRecord) → IsAbove config.granules (tables_of w.cells) rd up number above t
        → CanPutIn config.granules (put (tables_of w.cells) above (Some (with_entries t (slice_set t.entries (number % 512) (Table rtt))))) rtt
        (copied_table rd (suc up) number width entry) rd (suc up) number
        → ((g i child : ℕ) (x : TableRecord) → tables_of w.cells g ≡ Some x → slice_get x.entries i ≡ Some (Table child)
        → table_granule config.granules (tables_of w.cells) x.place.rd (suc x.place.level) (512 * place_number x.place + i) ≡ Some child)
        → (i child : ℕ) (b : Bool) → (i == number % 512) ≡ b → slice_get (slice_set t.entries (number % 512) (Table rtt)) i ≡ Some (Table child)
        → table_granule config.granules (put (put (tables_of w.cells) above (Some (with_entries t (slice_set t.entries (number % 512) (Table rtt)))))
        rtt (Some (copied_table rd (suc up) number width entry)))
        t.place.rd (suc t.place.level) (512 * place_number t.place + i) ≡ Some child
    above_links {above} {width} t its can_put old i child true same link =
        let here : i ≡ number % 512 = eqb-true i (number % 512) same in
        let one = put (tables_of w.cells) above (Some (with_entries t (slice_set t.entries (number % 512) (Table rtt)))) in
        let child_is : rtt ≡ child =
        (let both : Some (Table rtt) ≡ Some (Table child) =
        sym (slice_get-set_same t.entries (number % 512) (Table rtt) its.below)
        ∙ ap (slice_get (slice_set t.entries (number % 512) (Table rtt))) (sym here) ∙ link in
        let entries : Table rtt ≡ Table child = same_Some (Table rtt) (Table child) both in cc) in
        let place : 512 * place_number t.place + i ≡ number =
        ap (λ k. 512 * place_number t.place + k) here ∙ above_number t rd up number its.placed in
        (λ k. table_granule config.granules (put one rtt (Some (copied_table rd (suc up) number width entry)))
        (its.placed.is_realm k) (suc (its.placed.is_level k)) (place k))
        ∙ table-put config.granules one rtt (copied_table rd (suc up) number width entry) rd (suc up) number can_put rd (suc up) number
        ∙ ap (λ b. if b then Some rtt else table_granule config.granules one rd (suc up) number)
        (same_place rd (suc up) number rd (suc up) number refl refl refl)
        ∙ ap Some child_is
    above_links {above} {width} t its can_put old i child false apart link =
        let u = with_entries t (slice_set t.entries (number % 512) (Table rtt)) in
        let one = put (tables_of w.cells) above (Some u) in
        let was : slice_get t.entries i ≡ Some (Table child) =
        sym (slice_get-set_other t.entries (number % 512) i (Table rtt) (λ same. both_ways (eq-eqb i (number % 512) same) apart)) ∙ link in
        table-put_keeps config.granules one rtt (copied_table rd (suc up) number width entry) rd
        (suc up) number can_put t.place.rd (suc t.place.level) (512 * place_number t.place + i) child
        ((λ k. table_granule-kept config.granules (tables_of w.cells) above t u its.is_held refl k t.place.rd
        (suc t.place.level) (512 * place_number t.place + i))
        ∙ old above i child t its.is_held was)

-- ---- gone

pub Makes-table_destroyed : (config : Config) (w : Whole) (rd level number rtt : ℕ) (entry : Entry) → IsShaped config w
    → CanDestroyTable (flat_state config w.cells) rd level number rtt entry → Makes config w (TableDestroyed rd level number rtt entry)
unfolding changed cells_changed side_changed places_changed flat_state
Makes-table_destroyed config w rd zero number rtt entry shaped can = absurd (omega (arith, can.below_root))
Makes-table_destroyed config w rd (suc up) number rtt entry shaped can =
    let s : State = flat_state config w.cells in
    let cells = w.cells in
    let tables = tables_of cells in
    let sound = well_shaped-is_sound config w.side w.places w.cells shaped in
    let old = IsTied-shaped config w.side w.places w.cells shaped in
    let r : RealmRecord = realm_at s rd in
    let realm : realms_of cells rd ≡ Some r = realm_there s rd sound can.rd_tag in
    let back : suc up - 1 ≡ up = omega arith in
    let parent = value_there (table_granule config.granules tables rd up (number / 512))
    (sound.tables.below rd up number rtt r can.there realm (omega (arith, can.below_root))) in
    let above : ℕ = parent.0 in
    let found_at : table_granule config.granules tables rd (suc up - 1) (number / 512) ≡ Some above =
    ap (λ l. table_granule config.granules tables rd l (number / 512)) back ∙ parent.1 in
    let is_above = above_is config.granules (realms_of cells) tables rd up number above old.tables parent.1 in
    let t : TableRecord = is_above.0 in
    let its = is_above.1 in
    let no_link : is_table entry ≡ false = fitting_leaf entry r (suc up - 1) number can.kind in
    let held = table_granule-holds config.granules tables rd (suc up) number rtt can.there in
    let gone : TableRecord = held.table in
    let gone_placed : IsPlaced gone rd (suc up) number = record { is_realm = held.is_realm; is_level = held.is_level; is_number = held.is_number } in
    let above_cell : cells above ≡ Rtt t = cell-table (cells above) t its.is_held in
    let rtt_cell : cells rtt ≡ Rtt gone = cell-table (cells rtt) gone held.is_held in
    let apart : (rtt == above) ≡ false = false_from_ne_true _ (λ same.
    let one_table : gone ≡ t = same_Some gone t (sym held.is_held ∙ ap tables (eqb-true rtt above same) ∙ its.is_held) in
    let levels : suc up ≡ up = sym held.is_level ∙ ap (λ (x : TableRecord). x.place.level) one_table ∙ its.placed.is_level in
    omega (arith, levels)) in
    let u : TableRecord = with_entries t (slice_set t.entries (number % 512) entry) in
    let one : ℕ → Option TableRecord = put tables above (Some u) in
    let one_found : AreFound config.granules one = AreFound-entries config.granules tables above t u old.tables.found its.is_held refl in
    let one_held : one rtt ≡ Some gone = put-elsewhere tables above (Some u) rtt apart ∙ held.is_held in
    let kept : (other l n : ℕ) → table_granule config.granules one other l n ≡ table_granule config.granules tables other l n =
    λ other l n i. table_granule-kept config.granules tables above t u its.is_held refl i other l n in
    let first : views_of (changed_at cells above (cell_with_entries (λ entries. slice_set entries (number % 512) entry)))
    ≡ record (views_of cells) { tables = one } =
    views_of-entries cells above t (λ entries. slice_set entries (number % 512) entry) above_cell in
    record {
      views = record {
        tags = put (tags_of cells) rtt tag.Delegated;
        realms = realms_of cells;
        recs = recs_of cells;
        tables = put one rtt None;
      };
      seen = ap (λ found. views_of (put (cells_with_entries cells (λ entries. slice_set entries (number % 512) entry) found) rtt Delegated)) found_at
          ∙ views_of-put (changed_at cells above (cell_with_entries (λ entries. slice_set entries (number % 512) entry))) rtt Delegated
          ∙ ap (λ v. views_put v rtt Delegated) first
          ∙ (λ i. record {
            tags = put (tags_of cells) rtt tag.Delegated;
            realms = put-same (realms_of cells) rtt None (ap realm_in rtt_cell) i;
            recs = put-same (recs_of cells) rtt None (ap rec_in rtt_cell) i;
            tables = put one rtt None;
          });
      flat = λ i. record {
        config = config;
        tag = put (tags_of cells) rtt tag.Delegated;
        realm = realms_of cells;
        rec = recs_of cells;
        table = λ other l n. (table_granule-taken config.granules one rtt gone rd (suc up) number one_found one_held gone_placed other l n
            ∙ ap (λ x. if is_same_table rd (suc up) number other l n then None else x) (kept other l n)) i;
        leaf = λ other l n. (leaf-taken config.granules one rtt gone rd (suc up) number one_found one_held gone_placed other l n
            ∙ ap (λ x. if is_same_table rd (suc up) number other l (n / 512) then None else x) (leaves t its no_link old.tables.found other l n)) i;
      };
      tied = record {
        sides = old.sides;
        tables = ArePlaced-taken config.granules (realms_of cells) one rtt gone rd (suc up) number
            (ArePlaced-entries config.granules (realms_of cells) tables above t u old.tables its.is_held refl
            (length-set t.entries (number % 512) entry ∙ old.tables.whole above t its.is_held))
            one_held gone_placed;
        links = λ g i child x is link.
            let was = left_of (g == rtt) (one g) x is in
            by_address (λ o. o ≡ Some x → table_granule config.granules (put one rtt None) x.place.rd
            (suc x.place.level) (512 * place_number x.place + i) ≡ Some child) g above (Some u) (tables g)
            (λ _ at.
            let same : u ≡ x = same_Some u x at in
            let before =
            set_links t.entries (number % 512) entry i child its.below no_link (ap (λ (v : TableRecord). slice_get v.entries i) same ∙ link) in
            let found : table_granule config.granules tables t.place.rd (suc t.place.level) (512 * place_number t.place + i) ≡ Some child =
            old.links above i child t its.is_held before.1 in
            subst (λ (v : TableRecord).
            table_granule config.granules (put one rtt None) v.place.rd (suc v.place.level) (512 * place_number v.place + i) ≡ Some child) same
            (table-taken_keeps config.granules one rtt gone rd (suc up) number one_found one_held gone_placed t.place.rd
            (suc t.place.level) (512 * place_number t.place + i) child
            (kept t.place.rd (suc t.place.level) (512 * place_number t.place + i) ∙ found)
            (ne_eqb child rtt (λ is_gone.
            let place = sound.tables.apart t.place.rd (suc t.place.level)
            (512 * place_number t.place + i) rd (suc up) number rtt (found ∙ ap Some is_gone) can.there in
            let here : 512 * place_number t.place + number % 512 ≡ number = above_number t rd up number its.placed in
            before.0 (omega (arith, place.2, here))))))
            (λ elsewhere at.
            let found : table_granule config.granules tables x.place.rd (suc x.place.level) (512 * place_number x.place + i) ≡ Some child =
            old.links g i child x at link in
            let below : i < 512 = subst (λ n. i < n) (old.tables.whole g x at) (slice_get_within x.entries i (Table child) link) in
            table-taken_keeps config.granules one rtt gone rd (suc up) number one_found one_held gone_placed x.place.rd
            (suc x.place.level) (512 * place_number x.place + i) child
            (kept x.place.rd (suc x.place.level) (512 * place_number x.place + i) ∙ found)
            (ne_eqb child rtt (λ is_gone.
            let place = sound.tables.apart x.place.rd (suc x.place.level)
            (512 * place_number x.place + i) rd (suc up) number rtt (found ∙ ap Some is_gone) can.there in
            let level : x.place.level ≡ up = omega (arith, place.1) in
            let parent_number : place_number x.place ≡ number / 512 = omega (arith, place.2, below) in
            both_ways (eq-eqb g above (same_Some g above (sym (old.tables.found g x at)
            ∙ (λ k. table_granule config.granules tables (place.0 k) (level k) (parent_number k)) ∙ its.is_found))) elsewhere)))
            was.1;
        inside = old.inside;
      };
    }
  where
    leaves : {above : ℕ} (t : TableRecord) → IsAbove config.granules (tables_of w.cells) rd up number above t
        → is_table entry ≡ false → AreFound config.granules (tables_of w.cells)
        → (other l n : ℕ)
        → leaf_in_tables config.granules (put (tables_of w.cells) above (Some (with_entries t (slice_set t.entries (number % 512) entry)))) other l n
        ≡ (if is_same_entry rd (suc up) number other (l + 1) n then Some entry else leaf_in_tables config.granules (tables_of w.cells) other l n)
    leaves {above} t its leaf found other l n =
        let now = leaf_in_tables config.granules (put (tables_of w.cells) above (Some (with_entries t (slice_set t.entries (number % 512) entry)))) in
        choice (λ x. now other l n ≡ x) _ (is_same_entry rd (suc up) number other (l + 1) n)
        (Some entry) (leaf_in_tables config.granules (tables_of w.cells) other l n) refl
        (λ hit. spot_hit rd (suc up) number other (l + 1) n hit (λ here next first.
        let at : l ≡ up = omega (arith, next) in
        (λ i. now (here i) (at i) (first i))
        ∙ leaf-set_here config.granules (tables_of w.cells) above t rd up number entry found its.is_held its.placed
        ∙ entry_leaf-some (slice_set t.entries (number % 512) entry) (number % 512) entry
        (slice_get-set_same t.entries (number % 512) entry its.below) leaf))
        (λ miss. leaf-set_elsewhere config.granules
        (tables_of w.cells) above t rd up number entry found its.is_held its.placed other l n (level_up rd up number other l n miss))
