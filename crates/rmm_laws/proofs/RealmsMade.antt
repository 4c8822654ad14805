-- A realm is made with its root, or is gone with it.
use Rattle.rmm_laws.proofs.ShapeCommon.{◌%◌, ◌*◌, ◌+◌, ◌-◌, ◌/◌, ◌<◌, ◌==◌, ◌∙◌, ◌≡◌, ◌≤◌, Bool, Config, Delegated, IsShaped, IsSound, None, Option, Rd, RealmRecord, Rtt, Some, State, Table, TableRecord, Whole, ap, arith, both_ways, by_address, cells_changed, changed, eq-eqb, eqb-true, false, false_from_ne_true, flat_state, if◌then◌else◌, inl, inr, is_same_table, is_table, leaf_in_tables, none-some, option_and_then, place_number, places_changed, put, put-elsewhere, put-here, realm_at, realm_in, realm_there, realms_of, rec_in, recs_of, refl, same_Some, side_changed, slice_get, spot_hit, subst, suc, sym, table_granule, table_in, tables_of, tags_of, true, zero, ℕ, value_there}
use Rattle.std.proofs.Common.{◌^◌, ◌⊎◌, nat_lt, ◌++◌, replicate, ne_eqb}
use Rattle.std.proofs.lemmas.Bool.{false≢true, cases_order}
use Rattle.std.proofs.lemmas.Nat.{pow_pos, div-mul-add}
use Rattle.rmm_spec.specs.declared.change.Change.TheVariants.{RealmMade, RealmDestroyed}
use Rattle.rmm_spec.specs.declared.entry.Entry.TheVariants.{Unassigned, UnassignedNs}
use Rattle.rmm_spec.specs.declared.tag.Ripas.TheVariants.{Empty}
use Rattle.rmm_spec.specs.declared.tag.Tag.TheVariants as tag
use Rattle.rmm_spec.specs.Lookup.{has_vmid}
use Rattle.rmm_spec.specs.Walk.{table_size, table_number, entry_at, has_link, has_entry}
use Rattle.rmm_spec.specs.Change.{new_realm}
use Rattle.rmm_spec.specs.Applicable.{CanMakeRealm, CanDestroyRealm}
use Rattle.spec_lemmas.proofs.TagLaws.{granule_from_tag}
use Rattle.rmm_laws.proofs.Cases.{nothing_there, choice, spot_other, left_of}
use Rattle.rmm_laws.proofs.Entries.{entry-link}
use Rattle.rmm_laws.proofs.Searches.{any_below-false, none_has_vmid}
use Rattle.rmm_laws.specs.Whole.{root_table, side_without_vmid}
use Rattle.rmm_laws.proofs.Cells.{views_put, views_of-put, cell-table}
use Rattle.rmm_laws.proofs.Finds.{IsPlaced, same_place, table_granule-holds, table_granule-taken}
use Rattle.rmm_laws.proofs.ShapeKept.{Makes, delegated_there, rd_there}
use Rattle.rmm_laws.proofs.Leaves.{CanPutIn, table-put, leaf-put, table-put_keeps, ArePlaced-put, ArePlaced-realms, leaf-none, leaf-taken, ArePlaced-taken}
use Rattle.rmm_laws.proofs.Slices.{halves, halves-all}
use Rattle.rmm_laws.proofs.ShapeTies.{entry_leaf, AreListed, IsTied-shaped, well_shaped-is_sound}
use Rattle.spec_lemmas.proofs.Maps.{put-same}
use Rattle.rmm_laws.proofs.Facts.{root-first}

-- ---- a new root

root_place : (rd width level : ℕ) → IsPlaced (root_table rd width level) rd level 0
unfolding place_number table_number table_size
root_place rd width level =
    record { is_realm = refl; is_level = refl; is_number = zero_over (2 ^ (12 + 9 * (4 - level))) (pow_pos (12 + 9 * (4 - level))) }
  where
    zero_over : (n : ℕ) → 0 < n → 0 / n ≡ 0
    zero_over n pos = ap (λ m. m / n) (let same : 0 ≡ 0 * n + 0 = omega arith in same) ∙ div-mul-add 0 n 0 pos

root_entry : (n : ℕ) → n / 512 ≡ 0
    → entry_leaf (replicate 256 (Unassigned Empty) ++ replicate 256 UnassignedNs) (n % 512)
    ≡ Some (if nat_lt n 256 then Unassigned Empty else UnassignedNs)
root_entry n first =
    let at : n % 512 ≡ n = omega arith in
    let below : n < 256 + 256 = omega arith in
    ap (entry_leaf (replicate 256 (Unassigned Empty) ++ replicate 256 UnassignedNs)) at
    ∙ ap (option_and_then (λ e. if is_table e then None else Some e)) (halves 256 (Unassigned Empty) UnassignedNs n below)
    ∙ leaf (nat_lt n 256)
  where
    leaf : (b : Bool)
        → (if is_table (if b then Unassigned Empty else UnassignedNs) then None else Some (if b then Unassigned Empty else UnassignedNs))
        ≡ Some (if b then Unassigned Empty else UnassignedNs)
    leaf true = refl
    leaf false = refl

root_no_link : (i child : ℕ) → slice_get (replicate 256 (Unassigned Empty) ++ replicate 256 UnassignedNs) i ≡ Some (Table child) → ⊥
root_no_link i child is = false≢true (halves-all 256 (Unassigned Empty) UnassignedNs i (Table child) (λ e. false ≡ is_table e) refl refl is)

-- ---- made

pub Makes-realm_made : (config : Config) (w : Whole) (rd root width level vmid algo : ℕ) → IsShaped config w
    → CanMakeRealm (flat_state config w.cells) rd root width level vmid algo → Makes config w (RealmMade rd root width level vmid algo)
unfolding changed cells_changed side_changed places_changed flat_state
Makes-realm_made config w rd root width level vmid algo shaped can =
    let s : State = flat_state config w.cells in
    let cells = w.cells in
    let sound = well_shaped-is_sound config w.side w.places w.cells shaped in
    let old = IsTied-shaped config w.side w.places w.cells shaped in
    let new : RealmRecord = new_realm root width level vmid algo in
    let t : TableRecord = root_table rd width level in
    let rd_is : cells rd ≡ Delegated = delegated_there config cells rd can.rd_tag in
    let root_is : cells root ≡ Delegated = delegated_there config cells root can.root_tag in
    let apart : (root == rd) ≡ false = ne_eqb root rd (λ same. both_ways (eq-eqb rd root (sym same)) can.apart) in
    let none : realms_of cells rd ≡ None = ap realm_in rd_is in
    let unowned : (l n g : ℕ) → table_granule config.granules (tables_of cells) rd l n ≡ Some g → ⊥ =
    λ l n g at. (let owner = sound.tables.owned rd l n g at in none-some owner.0 (sym none ∙ owner.1)) in
    let can_put : CanPutIn config.granules (tables_of cells) root t rd level 0 = record {
      within = granule_from_tag s root tag.Delegated can.root_tag;
      free = ap table_in root_is;
      placed = root_place rd width level;
      new = not_some (table_granule config.granules (tables_of cells) rd level 0) (unowned level 0);
    } in
    let unused : (g : ℕ) (r : RealmRecord) → realms_of cells g ≡ Some r → (r.vmid == vmid) ≡ false =
    λ g r at. sym (ap (has_vmid vmid) at) ∙ none_has_vmid s vmid sound can.unused g in
    record {
      views = record {
        tags = put (put (tags_of cells) rd tag.Rd) root tag.Rtt;
        realms = put (realms_of cells) rd (Some new);
        recs = recs_of cells;
        tables = put (tables_of cells) root (Some t);
      };
      seen = views_of-put (put cells rd (Rd new)) root (Rtt t)
          ∙ ap (λ v. views_put v root (Rtt t)) (views_of-put cells rd (Rd new))
          ∙ (λ i. record {
            tags = put (put (tags_of cells) rd tag.Rd) root tag.Rtt;
            realms = put-same (put (realms_of cells) rd (Some new)) root None
                (put-elsewhere (realms_of cells) rd (Some new) root apart ∙ ap realm_in root_is) i;
            recs = (put-same (put (recs_of cells) rd None) root None (put-elsewhere (recs_of cells) rd None root apart ∙ ap rec_in root_is)
                ∙ put-same (recs_of cells) rd None (ap rec_in rd_is)) i;
            tables = put (put-same (tables_of cells) rd None (ap table_in rd_is) i) root (Some t);
          });
      flat = λ i. record {
        config = config;
        tag = put (put (tags_of cells) rd tag.Rd) root tag.Rtt;
        realm = put (realms_of cells) rd (Some new);
        rec = recs_of cells;
        table = λ other l n. table-put config.granules (tables_of cells) root t rd level 0 can_put other l n i;
        leaf = λ other l n. leaves can_put other l n i;
      };
      tied = record {
        sides = record {
          listed = λ g r. by_address (λ found. found ≡ Some r → put w.side.vmids vmid (Some rd) r.vmid ≡ Some g) g rd (Some new) (realms_of cells g)
              (λ here is. ap (put w.side.vmids vmid (Some rd)) (ap (λ (x : RealmRecord). x.vmid) (sym (same_Some new r is)))
              ∙ put-here w.side.vmids vmid (Some rd) ∙ ap Some (sym here))
              (λ _ is. put-elsewhere w.side.vmids vmid (Some rd) r.vmid (unused g r is) ∙ old.sides.listed g r is);
          used = λ v g. by_address (λ found. found ≡ Some g → (r : RealmRecord) × (put (realms_of cells) rd (Some new) g ≡ Some r) × (r.vmid ≡ v))
              v vmid (Some rd) (w.side.vmids v)
              (λ here is.
              (new, ap (put (realms_of cells) rd (Some new)) (sym (same_Some rd g is)) ∙ put-here (realms_of cells) rd (Some new), sym here))
              (λ _ is. let q = old.sides.used v g is in (
                q.0,
                put-elsewhere (realms_of cells) rd (Some new) g
                    (false_from_ne_true _ (λ same. none-some q.0 (sym none ∙ ap (realms_of cells) (sym (eqb-true g rd same)) ∙ q.1))) ∙ q.1,
                q.2,
              ));
          counted = old.sides.counted;
        };
        tables = ArePlaced-put config.granules (put (realms_of cells) rd (Some new)) (tables_of cells) root t rd level 0
            (ArePlaced-realms config.granules (realms_of cells) (put (realms_of cells) rd (Some new)) (tables_of cells)
            (λ g x r held. by_address (λ found. found ≡ Some r → realms_of cells x.place.rd ≡ Some r)
            x.place.rd rd (Some new) (realms_of cells x.place.rd)
            (λ here _. absurd (unowned x.place.level (place_number x.place) g
            ((λ i. table_granule config.granules (tables_of cells) (sym here i) x.place.level (place_number x.place)) ∙ old.tables.found g x held)))
            (λ _ is. is)) old.tables)
            can_put
            (record {
              width = λ r at. ap (λ (x : RealmRecord). x.width) (same_Some new r (sym (put-here (realms_of cells) rd (Some new)) ∙ at));
              base = (let none : 0 ≡ 0 * table_size level = omega arith in none)
                  ∙ sym (ap (λ n. n * table_size level) (root_place rd width level).is_number);
              whole = refl;
            });
        links = λ g i child x. by_address (λ found. found ≡ Some x → slice_get x.entries i ≡ Some (Table child)
            → table_granule config.granules (put (tables_of cells) root (Some t)) x.place.rd (suc x.place.level) (512 * place_number x.place + i)
            ≡ Some child) g root (Some t) (tables_of cells g)
            (λ _ is link. absurd (root_no_link i child (ap (λ (u : TableRecord). slice_get u.entries i) (same_Some t x is) ∙ link)))
            (λ _ is link. table-put_keeps config.granules (tables_of cells) root t rd level 0 can_put x.place.rd
            (suc x.place.level) (512 * place_number x.place + i) child (old.links g i child x is link));
        inside = old.inside;
      };
    }
  where
    not_some : (found : Option ℕ) → ((g : ℕ) → found ≡ Some g → ⊥) → found ≡ None
    not_some None never = refl
    not_some (Some g) never = absurd (never g refl)

    leaves : CanPutIn config.granules (tables_of w.cells) root (root_table rd width level) rd level 0 → (other l n : ℕ)
        → leaf_in_tables config.granules (put (tables_of w.cells) root (Some (root_table rd width level))) other l n
        ≡ (if is_same_table rd level 0 other l (n / 512) then Some (if nat_lt n 256 then Unassigned Empty else UnassignedNs)
        else leaf_in_tables config.granules (tables_of w.cells) other l n)
    leaves can_put other l n = leaf-put config.granules (tables_of w.cells) root (root_table rd width level) rd level 0 can_put other l n
        ∙ by (is_same_table rd level 0 other l (n / 512)) refl
      where
        by : (b : Bool) → is_same_table rd level 0 other l (n / 512) ≡ b
            → (if b then entry_leaf (replicate 256 (Unassigned Empty) ++ replicate 256 UnassignedNs) (n % 512)
            else leaf_in_tables config.granules (tables_of w.cells) other l n)
            ≡ (if b then Some (if nat_lt n 256 then Unassigned Empty else UnassignedNs)
            else leaf_in_tables config.granules (tables_of w.cells) other l n)
        by true same = spot_hit rd level 0 other l (n / 512) same (λ _ _ first. root_entry n first)
        by false apart = refl

-- ---- a realm whose root links to no table has no other

-- below it there is none
none_below : (s : State) (rd : ℕ) (r : RealmRecord) → IsSound s → s.realm rd ≡ Some r → has_link s rd r.start_level 0 ≡ false
    → (k n : ℕ) (found : Option ℕ) → s.table rd (suc k + r.start_level) n ≡ found → found ≡ None
unfolding has_entry
none_below s rd r sound at unlinked k n None there = refl
none_below s rd r sound at unlinked zero n (Some g) there =
    let level : suc zero + r.start_level ≡ suc r.start_level = omega arith in
    let here : s.table rd (suc r.start_level) n ≡ Some g = ap (λ l. s.table rd l n) (sym level) ∙ there in
    let above = value_there (s.table rd r.start_level (n / 512)) (sound.tables.below rd r.start_level n g r here at (omega arith)) in
    let first : n / 512 ≡ 0 = root-first s rd (n / 512) above.0 r sound at above.1 in
    let none : is_table (entry_at s rd r.start_level (512 * 0 + n)) ≡ false =
    any_below-false 512 (λ k. is_table (entry_at s rd r.start_level (512 * 0 + k))) unlinked n (omega arith) in
    let number : 512 * 0 + n ≡ n = omega arith in
    both_ways (ap is_table (ap (entry_at s rd r.start_level) number ∙ entry-link s sound rd r.start_level n g here)) none
none_below s rd r sound at unlinked (suc k) n (Some g) there =
    let level : suc (suc k) + r.start_level ≡ suc (suc k + r.start_level) = omega arith in
    let here : s.table rd (suc (suc k + r.start_level)) n ≡ Some g = ap (λ l. s.table rd l n) (sym level) ∙ there in
    let above =
    value_there (s.table rd (suc k + r.start_level) (n / 512)) (sound.tables.below rd (suc k + r.start_level) n g r here at (omega arith)) in
    nothing_there (none_below s rd r sound at unlinked k (n / 512) (s.table rd (suc k + r.start_level) (n / 512)) refl) above.1

lone_root : (s : State) (rd l n g : ℕ) (r : RealmRecord) → IsSound s → s.realm rd ≡ Some r → has_link s rd r.start_level 0 ≡ false
    → s.table rd l n ≡ Some g → (l ≡ r.start_level) × (n ≡ 0)
lone_root s rd l n g r sound at unlinked there = by cases
  where
    under : r.start_level ≤ l
    under = let owner = sound.tables.owned rd l n g there in
        subst (λ (q : RealmRecord). q.start_level ≤ l) (same_Some owner.0 r (sym owner.1 ∙ at)) owner.2.below_root

    cases : (l ≡ r.start_level) ⊎ ((k : ℕ) × (l ≡ suc k + r.start_level))
    cases = elim (cases_order l r.start_level) [
      | inl same ↦ inl same
      | inr other ↦ elim other [
        | inl less ↦ absurd (let above : r.start_level ≤ l = under in omega (arith, above, less))
        | inr more ↦ inr (l - suc r.start_level, omega (arith, more))
      ]
    ]

    by : (l ≡ r.start_level) ⊎ ((k : ℕ) × (l ≡ suc k + r.start_level)) → (l ≡ r.start_level) × (n ≡ 0)
    by (inl same) = (same, root-first s rd n g r sound at (ap (λ x. s.table rd x n) (sym same) ∙ there))
    by (inr deeper) =
        nothing_there (none_below s rd r sound at unlinked deeper.0 n (s.table rd (suc deeper.0 + r.start_level) n) refl)
        (ap (λ x. s.table rd x n) (sym deeper.1) ∙ there)

-- ---- gone

pub Makes-realm_destroyed : (config : Config) (w : Whole) (rd root : ℕ) → IsShaped config w
    → CanDestroyRealm (flat_state config w.cells) rd root → Makes config w (RealmDestroyed rd root)
unfolding changed cells_changed side_changed places_changed flat_state
Makes-realm_destroyed config w rd root shaped can =
    let s : State = flat_state config w.cells in
    let cells = w.cells in
    let sound = well_shaped-is_sound config w.side w.places w.cells shaped in
    let old = IsTied-shaped config w.side w.places w.cells shaped in
    let r : RealmRecord = realm_at s rd in
    let there : realms_of cells rd ≡ Some r = realm_there s rd sound can.rd_tag in
    let rd_is : cells rd ≡ Rd r = rd_there config cells rd sound can.rd_tag in
    let found : table_granule config.granules (tables_of cells) rd r.start_level 0 ≡ Some root =
    sound.tables.roots rd r there ∙ ap Some (sym can.is_root) in
    let held = table_granule-holds config.granules (tables_of cells) rd r.start_level 0 root found in
    let t : TableRecord = held.table in
    let placed : IsPlaced t rd r.start_level 0 = record { is_realm = held.is_realm; is_level = held.is_level; is_number = held.is_number } in
    let root_is : cells root ≡ Rtt t = cell-table (cells root) t held.is_held in
    let apart : (root == rd) ≡ false = ne_eqb root rd (λ same. (let bad : Rtt t ≡ Rd r = sym root_is ∙ ap cells same ∙ rd_is in cc)) in
    let alone : (l n g : ℕ) → table_granule config.granules (tables_of cells) rd l n ≡ Some g → (l ≡ r.start_level) × (n ≡ 0) =
    λ l n g at. lone_root s rd l n g r sound there can.unlinked at in
    let taken : (other l n : ℕ) → table_granule config.granules (put (tables_of cells) root None) other l n
    ≡ (if is_same_table rd r.start_level 0 other l n then None else table_granule config.granules (tables_of cells) other l n) =
    table_granule-taken config.granules (tables_of cells) root t rd r.start_level 0 old.tables.found held.is_held placed in
    let tables_gone : (other l n : ℕ) → table_granule config.granules (put (tables_of cells) root None) other l n
    ≡ (if other == rd then None else table_granule config.granules (tables_of cells) other l n) =
    λ other l n. choice (λ x. table_granule config.granules (put (tables_of cells) root None) other l n ≡ x)
    (other == rd) (other == rd) None (table_granule config.granules (tables_of cells) other l n) refl
    (λ here. taken other l n ∙ none_left (is_same_table rd r.start_level 0 other l n) (table_granule config.granules (tables_of cells) other l n)
    (λ g at. let place = alone l n g ((λ i. table_granule config.granules (tables_of cells) (sym (eqb-true other rd here) i) l n) ∙ at) in
    same_place rd r.start_level 0 other l n (eqb-true other rd here) place.0 place.1))
    (λ elsewhere. taken other l n
    ∙ ap (λ b. if b then None else table_granule config.granules (tables_of cells) other l n) (spot_other rd r.start_level 0 other l n elsewhere)) in
    let leaves_gone : (other l n : ℕ) → leaf_in_tables config.granules (put (tables_of cells) root None) other l n
    ≡ (if other == rd then None else leaf_in_tables config.granules (tables_of cells) other l n) =
    λ other l n. choice (λ x. leaf_in_tables config.granules (put (tables_of cells) root None) other l n ≡ x)
    (other == rd) (other == rd) None (leaf_in_tables config.granules (tables_of cells) other l n) refl
    (λ here. leaf-none config.granules (put (tables_of cells) root None) other l n
    (tables_gone other l (n / 512) ∙ ap (λ b. if b then None else table_granule config.granules (tables_of cells) other l (n / 512)) here))
    (λ elsewhere. leaf-taken config.granules (tables_of cells) root t rd r.start_level 0 old.tables.found held.is_held placed other l n
    ∙ ap (λ b. if b then None else leaf_in_tables config.granules (tables_of cells) other l n)
    (spot_other rd r.start_level 0 other l (n / 512) elsewhere)) in
    let listed : AreListed config.granules (record w.side { vmids = put w.side.vmids r.vmid None }) (put (realms_of cells) rd None) (recs_of cells) =
    record {
      listed = λ g q is.
          let was = left_of (g == rd) (realms_of cells g) q is in
          put-elsewhere w.side.vmids r.vmid None q.vmid (ne_eqb q.vmid r.vmid (λ same.
          both_ways (eq-eqb g rd (same_Some g rd (sym (old.sides.listed g q was.1) ∙ ap w.side.vmids same ∙ old.sides.listed rd r there))) was.0))
          ∙ old.sides.listed g q was.1;
      used = λ v g. by_address (λ found. found ≡ Some g → (q : RealmRecord) × (put (realms_of cells) rd None g ≡ Some q) × (q.vmid ≡ v)) v r.vmid None
          (w.side.vmids v) (λ _ none. absurd (none-some g none))
          (λ elsewhere is. let q = old.sides.used v g is in (
            q.0,
            put-elsewhere (realms_of cells) rd None g (ne_eqb g rd (λ same.
                both_ways (eq-eqb v r.vmid
                (sym q.2 ∙ ap (λ (x : RealmRecord). x.vmid) (same_Some q.0 r (sym q.1 ∙ ap (realms_of cells) same ∙ there)))) elsewhere)) ∙ q.1,
            q.2,
          ));
      counted = old.sides.counted;
    } in
    record {
      views = record {
        tags = put (put (tags_of cells) rd tag.Delegated) root tag.Delegated;
        realms = put (realms_of cells) rd None;
        recs = recs_of cells;
        tables = put (tables_of cells) root None;
      };
      seen = views_of-put (put cells rd Delegated) root Delegated
          ∙ ap (λ v. views_put v root Delegated) (views_of-put cells rd Delegated)
          ∙ (λ i. record {
            tags = put (put (tags_of cells) rd tag.Delegated) root tag.Delegated;
            realms = put-same (put (realms_of cells) rd None) root None (put-elsewhere (realms_of cells) rd None root apart ∙ ap realm_in root_is) i;
            recs = (put-same (put (recs_of cells) rd None) root None (put-elsewhere (recs_of cells) rd None root apart ∙ ap rec_in root_is)
                ∙ put-same (recs_of cells) rd None (ap rec_in rd_is)) i;
            tables = put (put-same (tables_of cells) rd None (ap table_in rd_is) i) root None;
          });
      flat = λ i. record {
        config = config;
        tag = put (put (tags_of cells) rd tag.Delegated) root tag.Delegated;
        realm = put (realms_of cells) rd None;
        rec = recs_of cells;
        table = λ other l n. tables_gone other l n i;
        leaf = λ other l n. leaves_gone other l n i;
      };
      tied = record {
        sides = subst (λ c. AreListed config.granules (side_without_vmid w.side c) (put (realms_of cells) rd None) (recs_of cells))
            (sym rd_is) listed;
        tables = ArePlaced-taken config.granules (put (realms_of cells) rd None) (tables_of cells) root t rd r.start_level 0
            (ArePlaced-realms config.granules (realms_of cells) (put (realms_of cells) rd None) (tables_of cells)
            (λ g x q _ is. (left_of (x.place.rd == rd) (realms_of cells x.place.rd) q is).1) old.tables)
            held.is_held placed;
        links = λ g i child x is link.
            let was = left_of (g == root) (tables_of cells g) x is in
            let elsewhere : (x.place.rd == rd) ≡ false = false_from_ne_true _ (λ same.
            let here : x.place.rd ≡ rd = eqb-true x.place.rd rd same in
            let at : table_granule config.granules (tables_of cells) rd x.place.level (place_number x.place) ≡ Some g =
            (λ j. table_granule config.granules (tables_of cells) (sym here j) x.place.level (place_number x.place)) ∙ old.tables.found g x was.1 in
            let place = alone x.place.level (place_number x.place) g at in
            both_ways (eq-eqb g root
            (same_Some g root (sym at ∙ (λ j. table_granule config.granules (tables_of cells) rd (place.0 j) (place.1 j)) ∙ found))) was.0) in
            tables_gone x.place.rd (suc x.place.level) (512 * place_number x.place + i)
            ∙ ap (λ b. if b then None else table_granule config.granules (tables_of cells) x.place.rd
            (suc x.place.level) (512 * place_number x.place + i)) elsewhere
            ∙ old.links g i child x was.1 link;
        inside = old.inside;
      };
    }
  where
    none_left : (test : Bool) (found : Option ℕ) → ((g : ℕ) → found ≡ Some g → test ≡ true) → (if test then None else found) ≡ None
    none_left true found placed = refl
    none_left false None placed = refl
    none_left false (Some g) placed = absurd (false≢true (placed g refl))
