-- What passes the tests of a take is a rising take.
use Rattle.command_core.proofs.Common.{◌&&◌, ◌<◌, ◌==◌, ◌||◌, ◌∙◌, ◌∷◌, ◌≡◌, ◌≤◌, Bool, Config, HeldCell, IsTrue, List, Needed, None, Option, Rd, Rec, Rtt, Some, [], and_parts, ap, are_distinct, arith, cell_in, eq-eqb, eqb-true, false, false≢true, granules_held, held_at, if◌then◌else◌, inl, inr, is_granule, is_held, is_some, length, list_all, list_any, nat_le, nat_tests, none-some, not, not-true, refl, subst, suc, sym, tag_number, tag_of, true, zero, ℕ}
use Rattle.std.proofs.Common.{nat_lt, get_or, ltb-true}
use Rattle.std.specs.Prelude.{Contains, slice_get}
use Rattle.std.proofs.lemmas.Option.{same_Some}
use Rattle.rmm_spec.specs.declared.entry.Entry.{Entry}
use Rattle.rmm_spec.specs.declared.tag.Tag.{Tag}
use Rattle.rmm_spec.specs.Cell.{Cell, is_data}
use Rattle.rmm_spec.specs.Locks.{is_named, leads_to, names_part, depth, IsStray, IsRisingTake}
use Rattle.spec_lemmas.proofs.TagLaws.{tag_number-injective}
use Rattle.spec_lemmas.proofs.Members.{Contains-nil}
use Rattle.command_core.specs.Named.{is_wrong_for, fits_below, is_upward, entry_leads, has_part, has_aux_part, depth_in, fits_beside, is_downward}
use Rattle.lemmas.proofs.Members.{Contains-head, Contains-tail}

-- ---- each of what is held

-- what holds of each granule that is held holds of each held cell's
pub all_at : (p : ℕ → Bool) (held : List HeldCell) → list_all p (granules_held held) ≡ true → (h : HeldCell) → Contains held h → p h.granule ≡ true
all_at p [] all h has = absurd (Contains-nil h has)
all_at p (x ∷ held) all h has = by (all_at p held) has.0 has.1 has.2
  where
    parts : (p x.granule ≡ true) × (list_all p (granules_held held) ≡ true)
    parts = and_parts (p x.granule) (list_all p (granules_held held)) all

    by : (list_all p (granules_held held) ≡ true → (y : HeldCell) → Contains held y → p y.granule ≡ true)
        → (k : ℕ) → k < length (x ∷ held) → get_or (x ∷ held) k h ≡ h → p h.granule ≡ true
    by rest zero within is = subst (λ (y : HeldCell). p y.granule ≡ true) is parts.0
    by rest (suc k) within is = rest parts.1 h (k, omega arith, is)

-- what no granule that is held passes, this one doesn't
pub none_at : (p : ℕ → Bool) (held : List HeldCell) → list_any p (granules_held held) ≡ false → (h : HeldCell) → Contains held h → p h.granule ≡ false
none_at p [] none h has = absurd (Contains-nil h has)
none_at p (x ∷ held) none h has = by (none_at p held) has.0 has.1 has.2
  where
    first : (b c : Bool) → (b || c) ≡ false → (b ≡ false) × (c ≡ false)
    first true c is = absurd (false≢true (sym is))
    first false c is = (refl, is)

    parts : (p x.granule ≡ false) × (list_any p (granules_held held) ≡ false)
    parts = first (p x.granule) (list_any p (granules_held held)) none

    by : (list_any p (granules_held held) ≡ false → (y : HeldCell) → Contains held y → p y.granule ≡ false)
        → (k : ℕ) → k < length (x ∷ held) → get_or (x ∷ held) k h ≡ h → p h.granule ≡ false
    by rest zero within is = subst (λ (y : HeldCell). p y.granule ≡ false) is parts.0
    by rest (suc k) within is = rest parts.1 h (k, omega arith, is)

-- each held cell is found at its granule
pub found-own : (held : List HeldCell) → IsTrue (are_distinct (granules_held held)) → (h : HeldCell)
    → Contains held h → cell_in h.granule held ≡ Some h.cell
found-own [] distinct h has = absurd (Contains-nil h has)
found-own (x ∷ held) distinct h has = by (found-own held) has.0 has.1 has.2
  where
    parts : (not (list_any (λ other. other == x.granule) (granules_held held)) ≡ true) × (are_distinct (granules_held held) ≡ true)
    parts = and_parts (not (list_any (λ other. other == x.granule) (granules_held held))) (are_distinct (granules_held held)) distinct

    behind : (x.granule == h.granule) ≡ false → cell_in h.granule held ≡ Some h.cell
        → (if x.granule == h.granule then Some x.cell else cell_in h.granule held) ≡ Some h.cell
    behind apart found = rw apart found

    by : (IsTrue (are_distinct (granules_held held)) → (y : HeldCell) → Contains held y → cell_in y.granule held ≡ Some y.cell)
        → (k : ℕ) → k < length (x ∷ held) → get_or (x ∷ held) k h ≡ h
        → (if x.granule == h.granule then Some x.cell else cell_in h.granule held) ≡ Some h.cell
    by rest zero within is =
        let same : (x.granule == h.granule) ≡ true = eq-eqb x.granule h.granule (ap (λ (y : HeldCell). y.granule) is) in
        rw same (ap (λ (y : HeldCell). Some y.cell) is)
    by rest (suc k) within is =
        let there : Contains held h = (k, omega arith, is) in
        let apart : (h.granule == x.granule) ≡ false =
        none_at (λ other. other == x.granule) held (not-true (list_any (λ other. other == x.granule) (granules_held held)) parts.0) h there in
        behind (let swapped : (x.granule == h.granule) ≡ false = grind (arith, nat_tests) in swapped) (rest parts.1 h there)

-- what is found is held
pub found-contains : (held : List HeldCell) (g : ℕ) (c : Cell) → cell_in g held ≡ Some c → Contains held (held_at g c)
found-contains [] g c is = absurd (none-some c is)
found-contains (x ∷ held) g c is = by (x.granule == g) refl (found-contains held g c) is
  where
    by : (b : Bool) → (x.granule == g) ≡ b → (cell_in g held ≡ Some c → Contains held (held_at g c))
        → (if b then Some x.cell else cell_in g held) ≡ Some c → Contains (x ∷ held) (held_at g c)
    by true same rest found =
        let at : x.granule ≡ g = eqb-true x.granule g same in
        let cell : x.cell ≡ c = same_Some x.cell c found in
        let one : x ≡ held_at g c = λ i. record { granule = at i; cell = cell i } in
        subst (λ y. Contains (x ∷ held) y) one (Contains-head x held)
    by false apart rest found = Contains-tail x held (held_at g c) (rest found)

-- ---- tags

same_tag : (a b : Tag) → (tag_number a == tag_number b) ≡ true → a ≡ b
same_tag a b is = tag_number-injective a b (eqb-true (tag_number a) (tag_number b) is)

-- a name of the granule has the cell's tag
pub right_tag : (names : List Needed) (g : ℕ) (c : Cell) → is_wrong_for c g names ≡ false → (n : Needed)
    → Contains names n → n.granule ≡ g → tag_of c ≡ n.tag
right_tag [] g c right n has same = absurd (Contains-nil n has)
right_tag (m ∷ names) g c right n has same = by (right_tag names g c) has.0 has.1 has.2
  where
    parts : (b d : Bool) → (b || d) ≡ false → (b ≡ false) × (d ≡ false)
    parts true d is = absurd (false≢true (sym is))
    parts false d is = (refl, is)

    both : ((m.granule == g && not (tag_number (tag_of c) == tag_number m.tag)) ≡ false) × (is_wrong_for c g names ≡ false)
    both = parts (m.granule == g && not (tag_number (tag_of c) == tag_number m.tag)) (is_wrong_for c g names) right

    tag : (b d : Bool) → b ≡ true → (b && not d) ≡ false → d ≡ true
    tag true true here is = refl
    tag true false here is = absurd (false≢true (sym is))
    tag false d here is = absurd (false≢true here)

    by : (is_wrong_for c g names ≡ false → (y : Needed) → Contains names y → y.granule ≡ g → tag_of c ≡ y.tag)
        → (k : ℕ) → k < length (m ∷ names) → get_or (m ∷ names) k n ≡ n → tag_of c ≡ n.tag
    by rest zero within is =
        let at : (m.granule == g) ≡ true = eq-eqb m.granule g (ap (λ (x : Needed). x.granule) is ∙ same) in
        same_tag (tag_of c) m.tag (tag (m.granule == g) (tag_number (tag_of c) == tag_number m.tag) at both.0) ∙ ap (λ (x : Needed). x.tag) is
    by rest (suc k) within is = rest both.1 n (k, omega arith, is) same

-- ---- upwards

-- what the test says of one held cell
record FitsBelow (names : List Needed) (next granule : ℕ) (cell : Cell) : Type 0 where
  named : is_named names granule ≡ true
  below : granule < next
  right : is_wrong_for cell granule names ≡ false
  no_data : is_data cell ≡ false

fits_below-parts : (names : List Needed) (next granule : ℕ) (cell : Cell)
    → fits_below names next granule (Some cell) ≡ true → FitsBelow names next granule cell
fits_below-parts names next granule cell fits =
    let first = and_parts (is_named names granule && nat_lt granule next && not (is_wrong_for cell granule names)) (not (is_data cell)) fits in
    let second = and_parts (is_named names granule && nat_lt granule next) (not (is_wrong_for cell granule names)) first.0 in
    let third = and_parts (is_named names granule) (nat_lt granule next) second.0 in
    record {
      named = third.0;
      below = ltb-true granule next third.1;
      right = not-true (is_wrong_for cell granule names) second.1;
      no_data = not-true (is_data cell) first.1;
    }

le-true : (a b : ℕ) → nat_le a b ≡ true → a ≤ b
le-true a b is = grind (arith, nat_tests)

pub upward-rises : (config : Config) (names : List Needed) (held : List HeldCell) (next : ℕ) → IsTrue (are_distinct (granules_held held))
    → is_upward config names held next ≡ true → IsRisingTake config names held next
unfolding is_upward
upward-rises config names held next distinct passes =
    let each : ℕ → Bool = λ granule. fits_below names next granule (cell_in granule held) in
    let first =
    and_parts (is_granule config.granules next && is_named names next && nat_le (length held) 5) (list_all each (granules_held held)) passes in
    let second = and_parts (is_granule config.granules next && is_named names next) (nat_le (length held) 5) first.0 in
    let third = and_parts (is_granule config.granules next) (is_named names next) second.0 in
    let at : (h : HeldCell) → Contains held h → FitsBelow names next h.granule h.cell = λ h has.
    fits_below-parts names next h.granule h.cell
    (subst (λ o. fits_below names next h.granule o ≡ true) (found-own held distinct h has) (all_at each held first.1 h has)) in
    record {
      is_lock = third.0;
      is_new = λ h has same. (let less = (at h has).below in omega (arith, less, same));
      room = le-true (length held) 5 second.1;
      no_data = λ h has. (at h has).no_data;
      tags = λ h n has there same. right_tag names h.granule h.cell (at h has).right n there same;
      strays = λ h has unnamed. absurd (false≢true (sym unnamed ∙ (at h has).named));
      upwards = inl (record { next_named = third.1; all_named = λ h has. (at h has).named; above = λ h has. (at h has).below });
    }

-- ---- downwards

record FitsBeside (names : List Needed) (above : Option Cell) (granule : ℕ) (cell : Cell) : Type 0 where
  beside : (is_named names granule || nat_lt 0 (depth cell) || has_aux_part above granule) ≡ true
  right : is_wrong_for cell granule names ≡ false
  no_data : is_data cell ≡ false
  shallow : depth cell ≤ depth_in above

fits_beside-parts : (names : List Needed) (above : Option Cell) (granule : ℕ) (cell : Cell) → fits_beside names above granule (Some cell) ≡ true
    → FitsBeside names above granule cell
fits_beside-parts names above granule cell fits =
    let near = is_named names granule || nat_lt 0 (depth cell) || has_aux_part above granule in
    let first = and_parts (near && not (is_wrong_for cell granule names) && not (is_data cell)) (nat_le (depth cell) (depth_in above)) fits in
    let second = and_parts (near && not (is_wrong_for cell granule names)) (not (is_data cell)) first.0 in
    let third = and_parts near (not (is_wrong_for cell granule names)) second.0 in
    record {
      beside = third.0;
      right = not-true (is_wrong_for cell granule names) third.1;
      no_data = not-true (is_data cell) second.1;
      shallow = le-true (depth cell) (depth_in above) first.1;
    }

-- what passes at a place of a list is in it
any-at : (p : Entry → Bool) (es : List Entry) (i : ℕ) (e : Entry) → slice_get es i ≡ Some e → p e ≡ true → list_any p es ≡ true
any-at p [] i e at is = absurd (none-some e at)
any-at p (x ∷ es) zero e at is = ap (λ b. b || list_any p es) (ap p (same_Some x e at) ∙ is)
any-at p (x ∷ es) (suc i) e at is = by (p x) (any-at p es i e at is)
  where
    by : (b : Bool) → list_any p es ≡ true → (b || list_any p es) ≡ true
    by true rest = refl
    by false rest = rest

-- the cell that names the part
named_part : (above : Option Cell) (index next : ℕ) → has_part above index next ≡ true → (c : Cell) × (above ≡ Some c) × (names_part c next ≡ true)
named_part (Some (Rd realm)) index next part = (Rd realm, refl, part)
named_part (Some (Rec rec)) index next part = (Rec rec, refl, part)
named_part (Some (Rtt table)) index next part = by (slice_get table.entries index) refl part
  where
    by : (o : Option Entry) → slice_get table.entries index ≡ o → entry_leads next o ≡ true
        → (c : Cell) × (Some (Rtt table) ≡ Some c) × (names_part c next ≡ true)
    by None at leads = absurd (false≢true leads)
    by (Some e) at leads = (Rtt table, refl, any-at (leads_to next) table.entries index e at leads)
named_part (Some _) index next part = absurd (false≢true part)
named_part None index next part = absurd (false≢true part)

-- what isn't named is a table, or an auxiliary granule of the REC above
stray : (held : List HeldCell) (above : ℕ) (o : Option Cell) → cell_in above held ≡ o → (h : HeldCell) (b : Bool) → b ≡ false
    → (b || nat_lt 0 (depth h.cell) || has_aux_part o h.granule) ≡ true → IsStray held h
stray held above o is h true unnamed part = absurd (false≢true (sym unnamed))
stray held above o is h false unnamed part = by (nat_lt 0 (depth h.cell)) refl part
  where
    aux : (p : Option Cell) → cell_in above held ≡ p → has_aux_part p h.granule ≡ true → IsStray held h
    aux (Some (Rec rec)) at has =
        record { is_part = inr (held_at above (Rec rec), rec, found-contains held above (Rec rec) at, refl, has) }
    aux (Some _) at has = absurd (false≢true has)
    aux None at has = absurd (false≢true has)

    by : (t : Bool) → nat_lt 0 (depth h.cell) ≡ t → (t || has_aux_part o h.granule) ≡ true → IsStray held h
    by true table has = record { is_part = inl (ltb-true 0 (depth h.cell) table) }
    by false none has = aux o is has

pub downward-rises : (config : Config) (names : List Needed) (held : List HeldCell) (above index next : ℕ)
    → IsTrue (are_distinct (granules_held held))
    → is_downward config names held above index next ≡ true → IsRisingTake config names held next
unfolding is_downward
downward-rises config names held above index next distinct passes =
    let each : ℕ → Bool = λ granule. fits_beside names (cell_in above held) granule (cell_in granule held) in
    let first = and_parts (is_granule config.granules next && not (is_held next held) && nat_le (length held) 5
    && has_part (cell_in above held) index next) (list_all each (granules_held held)) passes in
    let second = and_parts (is_granule config.granules next && not (is_held next held) && nat_le (length held) 5)
    (has_part (cell_in above held) index next) first.0 in
    let third = and_parts (is_granule config.granules next && not (is_held next held)) (nat_le (length held) 5) second.0 in
    let fourth = and_parts (is_granule config.granules next) (not (is_held next held)) third.0 in
    let at : (h : HeldCell) → Contains held h → FitsBeside names (cell_in above held) h.granule h.cell = λ h has.
    fits_beside-parts names (cell_in above held) h.granule h.cell
    (subst (λ o. fits_beside names (cell_in above held) h.granule o ≡ true) (found-own held distinct h has) (all_at each held first.1 h has)) in
    let by = named_part (cell_in above held) index next second.1 in
    record {
      is_lock = fourth.0;
      is_new = λ h has same.
          (let there : is_held next held ≡ true =
          ap (λ g. is_held g held) (sym same) ∙ ap (λ (o : Option Cell). is_some o) (found-own held distinct h has) in
          false≢true (sym (not-true (is_held next held) fourth.1) ∙ there));
      room = le-true (length held) 5 third.1;
      no_data = λ h has. (at h has).no_data;
      tags = λ h n has there same. right_tag names h.granule h.cell (at h has).right n there same;
      strays = λ h has unnamed. stray held above (cell_in above held) refl h (is_named names h.granule) unnamed (at h has).beside;
      upwards = inr (record {
        by = held_at above by.0;
        is_held = found-contains held above by.0 by.1;
        is_part = by.2;
        deepest = λ h has. subst (λ o. depth h.cell ≤ depth_in o) by.1 (at h has).shallow;
      });
    }
