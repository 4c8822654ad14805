-- Tables and their leaves, after one table has other entries, is put in, or is taken out.
use Rattle.rmm_laws.proofs.ShapeCommon.{◌%◌, ◌*◌, ◌/◌, ◌==◌, ◌∙◌, ◌≡◌, Bool, IsTrue, None, Option, RealmRecord, Some, TableRecord, ap, both_ways, by_address, eq-eqb, eqb-true, false, false_from_ne_true, if◌then◌else◌, is_granule, is_same_table, leaf_in_tables, length, none-some, option_and_then, place_number, put, put-elsewhere, put-here, refl, same_Some, spot_hit, subst, sym, table_granule, true, ℕ}
use Rattle.rmm_spec.specs.Update.{is_same_entry}
use Rattle.rmm_spec.specs.Walk.{table_size}
use Rattle.rmm_spec.specs.Shape.{HoldsTable}
use Rattle.rmm_laws.proofs.Finds.{AreFound, IsPlaced, holds-found, same_place, table_granule-holds, table_granule-kept, table_granule-put, table_granule-taken}
use Rattle.rmm_laws.proofs.ShapeTies.{entry_leaf, leaf-found, same_table, ArePlaced}

-- ---- leaves by the table that is found

pub leaf-none : (granules : ℕ) (tables : ℕ → Option TableRecord) (rd level number : ℕ) → table_granule granules tables rd level (number / 512) ≡ None
    → leaf_in_tables granules tables rd level number ≡ None
unfolding leaf_in_tables
leaf-none granules tables rd level number none =
    ap (option_and_then (λ g. option_and_then (λ (u : TableRecord). entry_leaf u.entries (number % 512)) (tables g))) none

-- where the same granule is found, and holds the same table, the leaf is the same
leaf-same : (granules : ℕ) (tables now : ℕ → Option TableRecord) (rd level number : ℕ) (found : Option ℕ)
    → table_granule granules tables rd level (number / 512) ≡ found → table_granule granules now rd level (number / 512) ≡ found
    → ((g : ℕ) → found ≡ Some g → now g ≡ tables g) → leaf_in_tables granules now rd level number ≡ leaf_in_tables granules tables rd level number
unfolding leaf_in_tables
leaf-same granules tables now rd level number None old new same =
    leaf-none granules now rd level number new ∙ sym (leaf-none granules tables rd level number old)
leaf-same granules tables now rd level number (Some g) old new same =
    ap (option_and_then (λ g. option_and_then (λ (u : TableRecord). entry_leaf u.entries (number % 512)) (now g))) new
    ∙ ap (option_and_then (λ (u : TableRecord). entry_leaf u.entries (number % 512))) (same g refl)
    ∙ sym (ap (option_and_then (λ g. option_and_then (λ (u : TableRecord). entry_leaf u.entries (number % 512)) (tables g))) old)

-- a granule that holds the table is at its place
placed_here : (tables : ℕ → Option TableRecord) (granule : ℕ) (t : TableRecord) (rd level number : ℕ)
    → tables granule ≡ Some t → IsPlaced t rd level number
    → (g other l n : ℕ) → g ≡ granule → HoldsTable tables g other l n → is_same_entry rd level number other l n ≡ true
placed_here tables granule t rd level number at placed g other l n here held =
    let same : held.table ≡ t = same_table tables granule held.table t (ap tables (sym here) ∙ held.is_held) at in
    same_place rd level number other l n (sym held.is_realm ∙ ap (λ (u : TableRecord). u.place.rd) same ∙ placed.is_realm)
    (sym held.is_level ∙ ap (λ (u : TableRecord). u.place.level) same ∙ placed.is_level)
    (sym held.is_number ∙ ap (λ (u : TableRecord). place_number u.place) same ∙ placed.is_number)

pub placed_holds : (tables : ℕ → Option TableRecord) (granule : ℕ) (t : TableRecord) (rd level number : ℕ)
    → tables granule ≡ Some t → IsPlaced t rd level number
    → HoldsTable tables granule rd level number
placed_holds tables granule t rd level number at placed =
    record { table = t; is_held = at; is_realm = placed.is_realm; is_level = placed.is_level; is_number = placed.is_number }

-- ---- other entries

pub leaf-entries_here : (granules : ℕ) (tables : ℕ → Option TableRecord) (granule : ℕ) (t u : TableRecord) (rd level : ℕ) → AreFound granules tables
    → tables granule ≡ Some t → u.place ≡ t.place → (n : ℕ) → IsPlaced t rd level (n / 512)
    → leaf_in_tables granules (put tables granule (Some u)) rd level n ≡ entry_leaf u.entries (n % 512)
leaf-entries_here granules tables granule t u rd level found at same n placed =
    leaf-found granules (put tables granule (Some u)) rd level n granule u
    ((λ i. table_granule-kept granules tables granule t u at same i rd level (n / 512))
    ∙ holds-found granules tables granule rd level (n / 512) found (placed_holds tables granule t rd level (n / 512) at placed))
    (put-here tables granule (Some u))

pub leaf-table_here : (granules : ℕ) (tables : ℕ → Option TableRecord) (granule : ℕ) (t : TableRecord) (rd level : ℕ) → AreFound granules tables
    → tables granule ≡ Some t → (n : ℕ) → IsPlaced t rd level (n / 512) → leaf_in_tables granules tables rd level n ≡ entry_leaf t.entries (n % 512)
leaf-table_here granules tables granule t rd level found at n placed =
    leaf-found granules tables rd level n granule t
    (holds-found granules tables granule rd level (n / 512) found (placed_holds tables granule t rd level (n / 512) at placed)) at

pub leaf-entries_elsewhere : (granules : ℕ) (tables : ℕ → Option TableRecord) (granule : ℕ) (t u : TableRecord) (rd level number : ℕ)
    → tables granule ≡ Some t → u.place ≡ t.place → IsPlaced t rd level number → (other l n : ℕ)
    → is_same_table rd level number other l (n / 512) ≡ false
    → leaf_in_tables granules (put tables granule (Some u)) other l n ≡ leaf_in_tables granules tables other l n
leaf-entries_elsewhere granules tables granule t u rd level number at same placed other l n apart =
    leaf-same granules tables (put tables granule (Some u)) other l n (table_granule granules tables other l (n / 512)) refl
    (λ i. table_granule-kept granules tables granule t u at same i other l (n / 512))
    (λ g is. put-elsewhere tables granule (Some u) g (false_from_ne_true _ (λ here.
    both_ways (placed_here tables granule t rd level number at placed g other l (n / 512) (eqb-true g granule here)
    (table_granule-holds granules tables other l (n / 512) g is)) apart)))

pub AreFound-entries : (granules : ℕ) (tables : ℕ → Option TableRecord) (granule : ℕ) (t u : TableRecord) → AreFound granules tables
    → tables granule ≡ Some t → u.place ≡ t.place → AreFound granules (put tables granule (Some u))
AreFound-entries granules tables granule t u found at same g x held =
    (λ i. table_granule-kept granules tables granule t u at same i x.place.rd x.place.level (place_number x.place))
    ∙ by_address (λ o. o ≡ Some x → table_granule granules tables x.place.rd x.place.level (place_number x.place) ≡ Some g)
    g granule (Some u) (tables g)
    (λ here is. ap (λ p. table_granule granules tables p.rd p.level (place_number p))
    (sym (ap (λ (v : TableRecord). v.place) (same_Some u x is)) ∙ same)
    ∙ found granule t at ∙ ap Some (sym here))
    (λ _ is. found g x is) held

pub ArePlaced-entries : (granules : ℕ) (realms : ℕ → Option RealmRecord) (tables : ℕ → Option TableRecord) (granule : ℕ) (t u : TableRecord)
    → ArePlaced granules realms tables → tables granule ≡ Some t → u.place ≡ t.place → length u.entries ≡ 512
    → ArePlaced granules realms (put tables granule (Some u))
ArePlaced-entries granules realms tables granule t u old at same whole = record {
  found = AreFound-entries granules tables granule t u old.found at same;
  widths = λ g x realm. by_address (λ o. o ≡ Some x → realms x.place.rd ≡ Some realm → x.place.width ≡ realm.width) g granule (Some u) (tables g)
      (λ _ is of_realm.
      let place = sym same ∙ ap (λ (v : TableRecord). v.place) (same_Some u x is) in
      ap (λ p. p.width) (sym place) ∙ old.widths granule t realm at (ap (λ p. realms p.rd) place ∙ of_realm))
      (λ _ is of_realm. old.widths g x realm is of_realm);
  bases = λ g x. by_address (λ o. o ≡ Some x → x.place.base ≡ place_number x.place * table_size x.place.level) g granule (Some u) (tables g)
      (λ _ is. subst (λ p. p.base ≡ place_number p * table_size p.level)
      (sym same ∙ ap (λ (v : TableRecord). v.place) (same_Some u x is)) (old.bases granule t at))
      (λ _ is. old.bases g x is);
  whole = λ g x. by_address (λ o. o ≡ Some x → length x.entries ≡ 512) g granule (Some u) (tables g)
      (λ _ is. ap (λ (v : TableRecord). length v.entries) (sym (same_Some u x is)) ∙ whole) (λ _ is. old.whole g x is);
}

-- ---- a table put in

-- a table of a place that none has, in a granule that holds none
pub record CanPutIn (granules : ℕ) (tables : ℕ → Option TableRecord) (granule : ℕ) (t : TableRecord) (rd level number : ℕ) : Type 0 where
  pub within : IsTrue (is_granule granules granule)
  pub free : tables granule ≡ None
  pub placed : IsPlaced t rd level number
  pub new : table_granule granules tables rd level number ≡ None

pub table-put : (granules : ℕ) (tables : ℕ → Option TableRecord) (granule : ℕ) (t : TableRecord) (rd level number : ℕ)
    → CanPutIn granules tables granule t rd level number → (other l n : ℕ)
    → table_granule granules (put tables granule (Some t)) other l n
    ≡ (if is_same_table rd level number other l n then Some granule else table_granule granules tables other l n)
table-put granules tables granule t rd level number can =
    table_granule-put granules tables granule t rd level number can.within can.free can.placed can.new

pub leaf-put : (granules : ℕ) (tables : ℕ → Option TableRecord) (granule : ℕ) (t : TableRecord) (rd level number : ℕ)
    → CanPutIn granules tables granule t rd level number → (other l n : ℕ)
    → leaf_in_tables granules (put tables granule (Some t)) other l n
    ≡ (if is_same_table rd level number other l (n / 512) then entry_leaf t.entries (n % 512) else leaf_in_tables granules tables other l n)
leaf-put granules tables granule t rd level number can other l n = by (is_same_table rd level number other l (n / 512)) refl
  where
    by : (b : Bool) → is_same_table rd level number other l (n / 512) ≡ b
        → leaf_in_tables granules (put tables granule (Some t)) other l n
        ≡ (if b then entry_leaf t.entries (n % 512) else leaf_in_tables granules tables other l n)
    by true same =
        leaf-found granules (put tables granule (Some t)) other l n granule t
        (table-put granules tables granule t rd level number can other l (n / 512)
        ∙ ap (λ b. if b then Some granule else table_granule granules tables other l (n / 512)) same) (put-here tables granule (Some t))
    by false apart =
        leaf-same granules tables (put tables granule (Some t)) other l n (table_granule granules tables other l (n / 512)) refl
        (table-put granules tables granule t rd level number can other l (n / 512)
        ∙ ap (λ b. if b then Some granule else table_granule granules tables other l (n / 512)) apart)
        (λ g is. put-elsewhere tables granule (Some t) g (false_from_ne_true _ (λ here.
        let held = table_granule-holds granules tables other l (n / 512) g is in
        none-some held.table (sym (ap tables (eqb-true g granule here) ∙ can.free) ∙ held.is_held))))

-- what was found is found
pub table-put_keeps : (granules : ℕ) (tables : ℕ → Option TableRecord) (granule : ℕ) (t : TableRecord) (rd level number : ℕ)
    → CanPutIn granules tables granule t rd level number → (other l n g : ℕ) → table_granule granules tables other l n ≡ Some g
    → table_granule granules (put tables granule (Some t)) other l n ≡ Some g
table-put_keeps granules tables granule t rd level number can other l n g is =
    table-put granules tables granule t rd level number can other l n
    ∙ ap (λ b. if b then Some granule else table_granule granules tables other l n)
    (false_from_ne_true _ (λ same. spot_hit rd level number other l n same (λ here at first.
    none-some g (sym can.new ∙ sym (λ i. table_granule granules tables (here i) (at i) (first i)) ∙ is))))
    ∙ is

pub AreFound-put : (granules : ℕ) (tables : ℕ → Option TableRecord) (granule : ℕ) (t : TableRecord) (rd level number : ℕ) → AreFound granules tables
    → CanPutIn granules tables granule t rd level number → AreFound granules (put tables granule (Some t))
AreFound-put granules tables granule t rd level number found can g x =
    by_address (λ o. o ≡ Some x → table_granule granules (put tables granule (Some t)) x.place.rd x.place.level (place_number x.place) ≡ Some g)
    g granule (Some t) (tables g) (λ here is.
    let place = ap (λ (v : TableRecord). v.place) (same_Some t x is) in
    table-put granules tables granule t rd level number can x.place.rd x.place.level (place_number x.place)
    ∙ ap (λ b. if b then Some granule else table_granule granules tables x.place.rd x.place.level (place_number x.place))
    (same_place rd level number x.place.rd x.place.level (place_number x.place)
    (sym (ap (λ p. p.rd) place) ∙ can.placed.is_realm) (sym (ap (λ p. p.level) place) ∙ can.placed.is_level)
    (sym (ap (λ p. place_number p) place) ∙ can.placed.is_number))
    ∙ ap Some (sym here))
    (λ _ is. table-put_keeps granules tables granule t rd level number can x.place.rd x.place.level (place_number x.place) g (found g x is))

-- a new table has its realm's width, the first address of its place, and 512 entries
pub record IsMadeFor (realms : ℕ → Option RealmRecord) (t : TableRecord) : Type 0 where
  pub width : (realm : RealmRecord) → realms t.place.rd ≡ Some realm → t.place.width ≡ realm.width
  pub base : t.place.base ≡ place_number t.place * table_size t.place.level
  pub whole : length t.entries ≡ 512

pub ArePlaced-put : (granules : ℕ) (realms : ℕ → Option RealmRecord)
    (tables : ℕ → Option TableRecord) (granule : ℕ) (t : TableRecord) (rd level number : ℕ)
    → ArePlaced granules realms tables → CanPutIn granules tables granule t rd level number → IsMadeFor realms t
    → ArePlaced granules realms (put tables granule (Some t))
ArePlaced-put granules realms tables granule t rd level number old can made = record {
  found = AreFound-put granules tables granule t rd level number old.found can;
  widths = λ g x realm. by_address (λ o. o ≡ Some x → realms x.place.rd ≡ Some realm → x.place.width ≡ realm.width) g granule (Some t) (tables g)
      (λ _ is. subst (λ (v : TableRecord). realms v.place.rd ≡ Some realm → v.place.width ≡ realm.width) (same_Some t x is) (made.width realm))
      (λ _ is. old.widths g x realm is);
  bases = λ g x. by_address (λ o. o ≡ Some x → x.place.base ≡ place_number x.place * table_size x.place.level) g granule (Some t) (tables g)
      (λ _ is. subst (λ (v : TableRecord). v.place.base ≡ place_number v.place * table_size v.place.level) (same_Some t x is) made.base)
      (λ _ is. old.bases g x is);
  whole = λ g x. by_address (λ o. o ≡ Some x → length x.entries ≡ 512) g granule (Some t) (tables g)
      (λ _ is. ap (λ (v : TableRecord). length v.entries) (sym (same_Some t x is)) ∙ made.whole) (λ _ is. old.whole g x is);
}

-- other realms, where each table's is the same
pub ArePlaced-realms : (granules : ℕ) (realms others : ℕ → Option RealmRecord) (tables : ℕ → Option TableRecord)
    → ((g : ℕ) (t : TableRecord) (realm : RealmRecord) → tables g ≡ Some t → others t.place.rd ≡ Some realm → realms t.place.rd ≡ Some realm)
    → ArePlaced granules realms tables → ArePlaced granules others tables
ArePlaced-realms granules realms others tables back old = record {
  found = old.found;
  widths = λ g t realm held at. old.widths g t realm held (back g t realm held at);
  bases = old.bases;
  whole = old.whole;
}

-- ---- a table taken out

pub leaf-taken : (granules : ℕ) (tables : ℕ → Option TableRecord) (granule : ℕ) (t : TableRecord) (rd level number : ℕ)
    → AreFound granules tables → tables granule ≡ Some t → IsPlaced t rd level number → (other l n : ℕ)
    → leaf_in_tables granules (put tables granule None) other l n
    ≡ (if is_same_table rd level number other l (n / 512) then None else leaf_in_tables granules tables other l n)
leaf-taken granules tables granule t rd level number found at placed other l n = by (is_same_table rd level number other l (n / 512)) refl
  where
    now : (b : Bool) → is_same_table rd level number other l (n / 512) ≡ b
        → table_granule granules (put tables granule None) other l (n / 512) ≡ (if b then None else table_granule granules tables other l (n / 512))
    now b is = table_granule-taken granules tables granule t rd level number found at placed other l (n / 512)
        ∙ ap (λ b. if b then None else table_granule granules tables other l (n / 512)) is

    by : (b : Bool) → is_same_table rd level number other l (n / 512) ≡ b
        → leaf_in_tables granules (put tables granule None) other l n ≡ (if b then None else leaf_in_tables granules tables other l n)
    by true same = leaf-none granules (put tables granule None) other l n (now true same)
    by false apart =
        leaf-same granules tables (put tables granule None) other l n (table_granule granules tables other l (n / 512)) refl (now false apart)
        (λ g is. put-elsewhere tables granule None g (false_from_ne_true _ (λ here.
        both_ways (placed_here tables granule t rd level number at placed g other l (n / 512) (eqb-true g granule here)
        (table_granule-holds granules tables other l (n / 512) g is)) apart)))

-- what was found and isn't taken out is found
pub table-taken_keeps : (granules : ℕ) (tables : ℕ → Option TableRecord) (granule : ℕ) (t : TableRecord) (rd level number : ℕ)
    → AreFound granules tables → tables granule ≡ Some t → IsPlaced t rd level number → (other l n g : ℕ)
    → table_granule granules tables other l n ≡ Some g
    → (g == granule) ≡ false → table_granule granules (put tables granule None) other l n ≡ Some g
table-taken_keeps granules tables granule t rd level number found at placed other l n g is apart =
    table_granule-taken granules tables granule t rd level number found at placed other l n
    ∙ ap (λ b. if b then None else table_granule granules tables other l n)
    (false_from_ne_true _ (λ same. spot_hit rd level number other l n same (λ here below first.
    both_ways (eq-eqb g granule (same_Some g granule (sym is ∙ (λ i. table_granule granules tables (here i) (below i) (first i))
    ∙ holds-found granules tables granule rd level number found (placed_holds tables granule t rd level number at placed)))) apart)))
    ∙ is

pub ArePlaced-taken : (granules : ℕ) (realms : ℕ → Option RealmRecord)
    (tables : ℕ → Option TableRecord) (granule : ℕ) (t : TableRecord) (rd level number : ℕ)
    → ArePlaced granules realms tables → tables granule ≡ Some t → IsPlaced t rd level number → ArePlaced granules realms (put tables granule None)
ArePlaced-taken granules realms tables granule t rd level number old at placed =
    let left : (g : ℕ) (x : TableRecord) → put tables granule None g ≡ Some x → ((g == granule) ≡ false) × (tables g ≡ Some x) =
    λ g x. by_address (λ o. o ≡ Some x → ((g == granule) ≡ false) × (tables g ≡ Some x)) g granule None (tables g)
    (λ _ none. absurd (none-some x none)) (λ apart is. (apart, is)) in
    record {
      found = λ g x held. let was = left g x held in
          table-taken_keeps granules tables granule t rd level number old.found at placed x.place.rd x.place.level (place_number x.place) g
          (old.found g x was.1) was.0;
      widths = λ g x realm held. old.widths g x realm (left g x held).1;
      bases = λ g x held. old.bases g x (left g x held).1;
      whole = λ g x held. old.whole g x (left g x held).1;
    }
