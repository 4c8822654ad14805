-- The leaves of a set of tables, after one entry of one table is replaced, or the RIPAS of a stretch of its entries is set.
use Rattle.rmm_laws.proofs.ShapeCommon.{◌%◌, ◌*◌, ◌+◌, ◌-◌, ◌/◌, ◌<◌, ◌==◌, ◌∙◌, ◌≡◌, ◌≤◌, Bool, Entry, List, None, Option, Some, Table, TableRecord, ap, arith, both_ways, eq-eqb, eqb-true, false, if◌then◌else◌, inl, inr, is_same_table, is_table, leaf_in_tables, length, none-some, option_and_then, put, refl, same_Some, slice_get, spot_hit, subst, sym, true, ℕ}
use Rattle.std.proofs.Common.{◌&&◌, nat_lt, nat_le, option_map, slice_set}
use Rattle.std.proofs.lemmas.Bool.{and_parts, and_from, cases_eq, cases_lt, ltb-true, leb-true, lt-ltb, le-leb}
use Rattle.std.proofs.lemmas.List.{length-append, length-map, length-take, length-drop, length-set}
use Rattle.rmm_spec.specs.declared.tag.Ripas.{Ripas}
use Rattle.rmm_spec.specs.Update.{is_same_entry, entry_with_ripas}
use Rattle.rmm_spec.specs.Table.{entries_with_ripas}
use Rattle.rmm_spec.specs.TableCells.{leaf_of}
use Rattle.rmm_laws.proofs.Cases.{choice}
use Rattle.rmm_laws.proofs.Finds.{AreFound, IsPlaced, same_place}
use Rattle.rmm_laws.proofs.Leaves.{leaf-entries_here, leaf-table_here, leaf-entries_elsewhere}
use Rattle.rmm_laws.proofs.Slices.{slice_get-set_same, slice_get-set_other, IsStretch, ripas-get, ripas-is_link, entry_leaf-ripas}
use Rattle.rmm_laws.proofs.ShapeTies.{entry_leaf, entry_leaf-some}

pub no_link-child : {A : Type 0} (e : Entry) (child : ℕ) → is_table e ≡ false → e ≡ Table child → A
no_link-child e child leaf same = both_ways (ap is_table same) leaf

-- a table with other entries
abbrev pub with_entries : TableRecord → List Entry → TableRecord
with_entries t entries = record t { entries = entries }

same_number : (a b : ℕ) → a / 512 ≡ b / 512 → a % 512 ≡ b % 512 → a ≡ b
same_number a b up low = omega arith

-- an entry of a table, as a leaf
abbrev leaf_of_entry : Option Entry → Option Entry
leaf_of_entry found = option_and_then leaf_of found

-- ---- one entry

pub leaf-set_here : (granules : ℕ) (tables : ℕ → Option TableRecord) (granule : ℕ) (t : TableRecord) (rd level number : ℕ) (e : Entry)
    → AreFound granules tables → tables granule ≡ Some t → IsPlaced t rd level (number / 512)
    → leaf_in_tables granules (put tables granule (Some (with_entries t (slice_set t.entries (number % 512) e)))) rd level number
    ≡ entry_leaf (slice_set t.entries (number % 512) e) (number % 512)
leaf-set_here granules tables granule t rd level number e found held placed =
    leaf-entries_here granules tables granule t (with_entries t (slice_set t.entries (number % 512) e)) rd level found held refl number placed

pub leaf-set_elsewhere : (granules : ℕ) (tables : ℕ → Option TableRecord) (granule : ℕ) (t : TableRecord) (rd level number : ℕ) (e : Entry)
    → AreFound granules tables
    → tables granule ≡ Some t → IsPlaced t rd level (number / 512) → (other l n : ℕ) → is_same_entry rd level number other l n ≡ false
    → leaf_in_tables granules (put tables granule (Some (with_entries t (slice_set t.entries (number % 512) e)))) other l n
    ≡ leaf_in_tables granules tables other l n
leaf-set_elsewhere granules tables granule t rd level number e found held placed other l n miss =
    by (is_same_table rd level (number / 512) other l (n / 512)) refl
  where
    by : (b : Bool) → is_same_table rd level (number / 512) other l (n / 512) ≡ b
        → leaf_in_tables granules (put tables granule (Some (with_entries t (slice_set t.entries (number % 512) e)))) other l n
        ≡ leaf_in_tables granules tables other l n
    by true same = spot_hit rd level (number / 512) other l (n / 512) same (λ here at first.
        let now : IsPlaced t rd level (n / 512) =
        record { is_realm = placed.is_realm; is_level = placed.is_level; is_number = placed.is_number ∙ sym first } in
        let apart : n % 512 ≡ number % 512 → ⊥ =
        λ low. (let all : n ≡ number = same_number n number first low in both_ways (same_place rd level number other l n here at all) miss) in
        (λ i. leaf_in_tables granules (put tables granule (Some (with_entries t (slice_set t.entries (number % 512) e)))) (here i) (at i) n)
        ∙ leaf-entries_here granules tables granule t (with_entries t (slice_set t.entries (number % 512) e)) rd level found held refl n now
        ∙ ap leaf_of_entry (slice_get-set_other t.entries (number % 512) (n % 512) e apart)
        ∙ sym (leaf-table_here granules tables granule t rd level found held n now)
        ∙ sym (λ i. leaf_in_tables granules tables (here i) (at i) n))
    by false apart =
        leaf-entries_elsewhere granules tables granule t
        (with_entries t (slice_set t.entries (number % 512) e)) rd level (number / 512) held refl placed other l n apart

-- ---- what becomes of a table's entries

-- the entries are as many, no link is new, and the leaves are as the change of the state has them
pub record IsRewritten (granules : ℕ) (tables : ℕ → Option TableRecord) (granule : ℕ) (t : TableRecord) (entries : List Entry)
    (leaf : ℕ → ℕ → ℕ → Option Entry) : Type 0 where
  pub whole : length entries ≡ 512
  pub links : (i child : ℕ) → slice_get entries i ≡ Some (Table child) → slice_get t.entries i ≡ Some (Table child)
  pub leaves : (other l n : ℕ) → leaf_in_tables granules (put tables granule (Some (with_entries t entries))) other l n ≡ leaf other l n

pub set_links : (xs : List Entry) (place : ℕ) (e : Entry) (i child : ℕ) → place < length xs → is_table e ≡ false
    → slice_get (slice_set xs place e) i ≡ Some (Table child) → ((i ≡ place → ⊥) × (slice_get xs i ≡ Some (Table child)))
set_links xs place e i child below leaf link = elim (cases_eq i place) [
  | inl same ↦ no_link-child e child leaf
      (same_Some e (Table child) (sym (slice_get-set_same xs place e below) ∙ ap (slice_get (slice_set xs place e)) (sym same) ∙ link))
  | inr apart ↦ (apart, sym (slice_get-set_other xs place i e apart) ∙ link)
]

pub replaced_entries : (granules : ℕ) (tables : ℕ → Option TableRecord) (granule : ℕ) (t : TableRecord) (rd level number : ℕ) (e : Entry)
    → AreFound granules tables → tables granule ≡ Some t → IsPlaced t rd level (number / 512) → length t.entries ≡ 512 → is_table e ≡ false
    → IsRewritten granules tables granule t (slice_set t.entries (number % 512) e)
    (λ other l n. if is_same_entry rd level number other l n then Some e else leaf_in_tables granules tables other l n)
replaced_entries granules tables granule t rd level number e found held placed whole leaf =
    let below : number % 512 < length t.entries = (let low : number % 512 < 512 = omega arith in subst (λ n. number % 512 < n) (sym whole) low) in
    record {
      whole = length-set t.entries (number % 512) e ∙ whole;
      links = λ i child link. (set_links t.entries (number % 512) e i child below leaf link).1;
      leaves = λ other l n.
          let now = leaf_in_tables granules (put tables granule (Some (with_entries t (slice_set t.entries (number % 512) e)))) in
          choice (λ x. now other l n ≡ x) (is_same_entry rd level number other l n)
          (is_same_entry rd level number other l n) (Some e) (leaf_in_tables granules tables other l n) refl
          (λ hit. spot_hit rd level number other l n hit (λ here at first.
          (λ i. now (here i) (at i) (first i))
          ∙ leaf-set_here granules tables granule t rd level number e found held placed
          ∙ entry_leaf-some (slice_set t.entries (number % 512) e) (number % 512) e (slice_get-set_same t.entries (number % 512) e below) leaf))
          (λ miss. leaf-set_elsewhere granules tables granule t rd level number e found held placed other l n miss);
    }

-- what is at a place of the stretch
ripas_links : (ripas : Ripas) (found : Option Entry) (child : ℕ)
    → option_map (entry_with_ripas ripas) found ≡ Some (Table child) → found ≡ Some (Table child)
ripas_links ripas None child none = absurd (none-some (Table child) none)
ripas_links ripas (Some e) child some = ap Some (ripas-is_link ripas e child (same_Some (entry_with_ripas ripas e) (Table child) some))

length-ripas : (first last : ℕ) (ripas : Ripas) (xs : List Entry)
    → first ≤ last → last ≤ length xs → length (entries_with_ripas first last ripas xs) ≡ length xs
unfolding entries_with_ripas
length-ripas first last ripas xs order within = simp (length-append, length-map, length-take, length-drop) (omega arith)

pub ripas_entries : (granules : ℕ) (tables : ℕ → Option TableRecord) (granule : ℕ) (t : TableRecord) (rd level first last : ℕ) (ripas : Ripas)
    → AreFound granules tables
    → tables granule ≡ Some t → IsPlaced t rd level (first / 512) → length t.entries ≡ 512 → first < last → last ≤ (first / 512 + 1) * 512
    → IsRewritten granules tables granule t (entries_with_ripas (first % 512) (last - first / 512 * 512) ripas t.entries)
    (λ other l n. if other == rd && l == level && nat_le first n && nat_lt n last
    then option_map (entry_with_ripas ripas) (leaf_in_tables granules tables other l n) else leaf_in_tables granules tables other l n)
ripas_entries granules tables granule t rd level first last ripas found held placed whole some one_table =
    let from : ℕ = first % 512 in
    let up_to : ℕ = last - first / 512 * 512 in
    let order : from ≤ up_to = omega (arith, some, one_table) in
    let ends : up_to ≤ 512 = omega (arith, one_table) in
    let ys : List Entry = entries_with_ripas from up_to ripas t.entries in
    let at_place : (i : ℕ) → IsStretch (entry_with_ripas ripas) from (up_to - from) t.entries ys i =
    λ i. ripas-get from up_to ripas t.entries i order in
    let reach : from + (up_to - from) ≡ up_to = omega (arith, order) in
    record {
      whole = length-ripas from up_to ripas t.entries order (subst (λ n. up_to ≤ n) (sym whole) ends) ∙ whole;
      links = λ i child link. elim (cases_lt i from) [
        | inl before ↦ sym ((at_place i).before before) ∙ link
        | inr behind ↦ elim (cases_lt i (from + (up_to - from))) [
          | inl within ↦ ripas_links ripas (slice_get t.entries i) child (sym ((at_place i).within behind within) ∙ link)
          | inr after ↦ sym ((at_place i).after after) ∙ link
        ]
      ];
      leaves = λ other l n. leaves order ends other l n;
    }
  where
    from : ℕ
    from = first % 512

    up_to : ℕ
    up_to = last - first / 512 * 512

    ys : List Entry
    ys = entries_with_ripas (first % 512) (last - first / 512 * 512) ripas t.entries

    now : ℕ → ℕ → ℕ → Option Entry
    now = leaf_in_tables granules
        (put tables granule (Some (with_entries t (entries_with_ripas (first % 512) (last - first / 512 * 512) ripas t.entries))))

    placed_at : (n : ℕ) → n / 512 ≡ first / 512 → IsPlaced t rd level (n / 512)
    placed_at n same = record { is_realm = placed.is_realm; is_level = placed.is_level; is_number = placed.is_number ∙ sym same }

    -- an entry of the table that isn't of the stretch
    beside : (other l n : ℕ) → other ≡ rd → l ≡ level → n / 512 ≡ first / 512 → slice_get ys (n % 512) ≡ slice_get t.entries (n % 512)
        → now other l n ≡ leaf_in_tables granules tables other l n
    beside other l n here at same entry =
        (λ i. now (here i) (at i) n)
        ∙ leaf-entries_here granules tables granule t (with_entries t ys) rd level found held refl n (placed_at n same)
        ∙ ap leaf_of_entry entry
        ∙ sym (leaf-table_here granules tables granule t rd level found held n (placed_at n same))
        ∙ sym (λ i. leaf_in_tables granules tables (here i) (at i) n)

    leaves : first % 512 ≤ last - first / 512 * 512 → last - first / 512 * 512 ≤ 512 → (other l n : ℕ)
        → now other l n ≡ (if other == rd && l == level && nat_le first n && nat_lt n last
        then option_map (entry_with_ripas ripas) (leaf_in_tables granules tables other l n) else leaf_in_tables granules tables other l n)
    leaves order ends other l n =
        choice (λ x. now other l n ≡ x) _ (other == rd && l == level && nat_le first n && nat_lt n last)
        (option_map (entry_with_ripas ripas) (leaf_in_tables granules tables other l n)) (leaf_in_tables granules tables other l n) refl
        (λ hit.
        let all = and_parts (other == rd && l == level && nat_le first n) (nat_lt n last) hit in
        let three = and_parts (other == rd && l == level) (nat_le first n) all.0 in
        let two = and_parts (other == rd) (l == level) three.0 in
        let here : other ≡ rd = eqb-true other rd two.0 in
        let at : l ≡ level = eqb-true l level two.1 in
        let above : first ≤ n = leb-true first n three.1 in
        let below : n < last = ltb-true n last all.1 in
        let same : n / 512 ≡ first / 512 = omega (arith, above, below, one_table) in
        let lower : first % 512 ≤ n % 512 = omega (arith, same, above) in
        let upper : n % 512 < first % 512 + ((last - first / 512 * 512) - first % 512) = omega (arith, same, below, order) in
        (λ i. now (here i) (at i) n)
        ∙ leaf-entries_here granules tables granule t (with_entries t ys) rd level found held refl n (placed_at n same)
        ∙ entry_leaf-ripas ripas t.entries ys (n % 512)
        ((ripas-get (first % 512) (last - first / 512 * 512) ripas t.entries (n % 512) order).within lower upper)
        ∙ ap (option_map (entry_with_ripas ripas)) (sym (leaf-table_here granules tables granule t rd level found held n (placed_at n same))
        ∙ sym (λ i. leaf_in_tables granules tables (here i) (at i) n)))
        (λ miss. missed order other l n miss (is_same_table rd level (first / 512) other l (n / 512)) refl)
      where
        missed : first % 512 ≤ last - first / 512 * 512 → (other l n : ℕ) → (other == rd && l == level && nat_le first n && nat_lt n last) ≡ false
            → (b : Bool) → is_same_table rd level (first / 512) other l (n / 512) ≡ b → now other l n ≡ leaf_in_tables granules tables other l n
        missed order other l n miss true same = spot_hit rd level (first / 512) other l (n / 512) same (λ here at in_table.
            let written = ripas-get (first % 512) (last - first / 512 * 512) ripas t.entries (n % 512) order in
            elim (cases_lt n first) [
              | inl before ↦ (let low : n % 512 < first % 512 = omega (arith, in_table, before) in
                  beside other l n here at in_table (written.before low))
              | inr behind ↦ elim (cases_lt n last) [
                | inl within ↦ both_ways (and_from (other == rd && l == level && nat_le first n) (nat_lt n last)
                    (and_from (other == rd && l == level) (nat_le first n)
                    (and_from (other == rd) (l == level) (eq-eqb other rd here) (eq-eqb l level at)) (le-leb first n behind))
                    (lt-ltb n last within)) miss
                | inr after ↦ (let high : first % 512 + ((last - first / 512 * 512) - first % 512) ≤ n % 512 =
                    omega (arith, in_table, after, order) in
                    beside other l n here at in_table (written.after high))
              ]
            ])
        missed order other l n miss false apart =
            leaf-entries_elsewhere granules tables granule t (with_entries t ys) rd level (first / 512) held refl placed other l n apart
