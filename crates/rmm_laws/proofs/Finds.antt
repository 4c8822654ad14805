-- The table that a search finds is the one of that place, before and after a table is changed, put in or taken out.
use Rattle.rmm_laws.proofs.ShapeCommon.{◌*◌, ◌/◌, ◌<◌, ◌==◌, ◌∙◌, ◌≡◌, Bool, IsTrue, None, Option, Some, TableRecord, ap, arith, both_ways, by_address, eq-eqb, eqb-true, false, false_from_ne_true, if◌then◌else◌, inl, inr, is_granule, is_same_table, none-some, place_number, put, put-elsewhere, put-here, refl, same_Some, spot_hit, subst, suc, sym, table_granule, true, zero, ℕ}
use Rattle.std.proofs.Common.{◌⊎◌, option_map}
use Rattle.std.proofs.lemmas.Bool.{false≢true}
use Rattle.rmm_spec.specs.Update.{is_same_entry}
use Rattle.rmm_spec.specs.Flat.{found_below, is_table_of}
use Rattle.rmm_spec.specs.Shape.{HoldsTable}
use Rattle.rmm_laws.proofs.Cases.{nothing_there, spot_itself}
use Rattle.spec_lemmas.proofs.Lookups.{granule-number}

-- ---- searches

-- what is found passes
found_below-passes : (n : ℕ) (passes : ℕ → Bool) (k : ℕ) → found_below n passes ≡ Some k → (k < n) × IsTrue (passes k)
found_below-passes zero passes k is = absurd (none-some k is)
found_below-passes (suc n) passes k is = by (passes n) refl is (found_below-passes n passes k)
  where
    by : (b : Bool) → passes n ≡ b → (if b then Some n else found_below n passes) ≡ Some k
        → (found_below n passes ≡ Some k → (k < n) × IsTrue (passes k)) → (k < suc n) × IsTrue (passes k)
    by true here at rest = let same : n ≡ k = same_Some n k at in (omega arith, subst (λ m. IsTrue (passes m)) same here)
    by false gone at rest = let found = rest at in (let below : k < n = found.0 in omega arith, found.1)

-- where a number passes, one is found
found_below-some : (n : ℕ) (passes : ℕ → Bool) (k : ℕ) → k < n → IsTrue (passes k) → (j : ℕ) × (found_below n passes ≡ Some j)
found_below-some zero passes k below is = absurd (omega arith)
found_below-some (suc n) passes k below is = by (passes n) refl (found_below-some n passes k)
  where
    cases : (k < n) ⊎ (k ≡ n)
    cases = grind arith

    by : (b : Bool) → passes n ≡ b → (k < n → IsTrue (passes k) → (j : ℕ) × (found_below n passes ≡ Some j))
        → (j : ℕ) × ((if b then Some n else found_below n passes) ≡ Some j)
    by true here rest = (n, refl)
    by false gone rest = elim cases [ inl less ↦ rest less is | inr last ↦ both_ways is (ap passes last ∙ gone) ]

found_below-none : (n : ℕ) (passes : ℕ → Bool) → ((k : ℕ) → passes k ≡ false) → found_below n passes ≡ None
found_below-none zero passes none = refl
found_below-none (suc n) passes none = rw (none n) (found_below-none n passes none)

-- where none passed, one that passes now is found
found_below-new : (n : ℕ) (old new : ℕ → Bool) (k : ℕ) → k < n → IsTrue (new k) → ((j : ℕ) → (j ≡ k → ⊥) → new j ≡ old j)
    → found_below n old ≡ None → found_below n new ≡ Some k
found_below-new n old new k below is others none =
    let found = found_below-some n new k below is in
    let passes = found_below-passes n new found.0 found.1 in
    by (found.0 == k) refl found.0 refl found.1 passes.0 passes.1
  where
    by : (b : Bool) → (found_below-some n new k below is).0 == k ≡ b → (j : ℕ)
        → (found_below-some n new k below is).0 ≡ j → found_below n new ≡ Some j
        → j < n → IsTrue (new j) → found_below n new ≡ Some k
    by true same j at found within passes = found ∙ ap Some (sym at ∙ eqb-true _ k same)
    by false apart j at found within passes =
        let old_passes : IsTrue (old j) = sym (others j (λ same. both_ways (eq-eqb _ k (at ∙ same)) apart)) ∙ passes in
        let bad = found_below-some n old j within old_passes in nothing_there none bad.1

-- ---- tables by their places

-- what agrees in all three is one place
pub same_place : (rd level number other l n : ℕ) → other ≡ rd → l ≡ level → n ≡ number → is_same_entry rd level number other l n ≡ true
same_place rd level number other l n here at first = rw (here, at, first) (spot_itself rd level number)

pub holds-is_table_of : (tables : ℕ → Option TableRecord) (granule rd level number : ℕ) → HoldsTable tables granule rd level number
    → IsTrue (is_table_of rd level number (tables granule))
holds-is_table_of tables granule rd level number held =
    ap (is_table_of rd level number) held.is_held
    ∙ same_place rd level number held.table.place.rd held.table.place.level (place_number held.table.place) held.is_realm held.is_level held.is_number

is_table_of-holds : (tables : ℕ → Option TableRecord) (granule rd level number : ℕ) (found : Option TableRecord) → tables granule ≡ found
    → IsTrue (is_table_of rd level number found) → HoldsTable tables granule rd level number
is_table_of-holds tables granule rd level number None at is = absurd (false≢true is)
is_table_of-holds tables granule rd level number (Some t) at is =
    spot_hit rd level number t.place.rd t.place.level (place_number t.place) is
    (λ here below first. record { table = t; is_held = at; is_realm = here; is_level = below; is_number = first })

-- what is found holds the table of that place
pub table_granule-holds : (granules : ℕ) (tables : ℕ → Option TableRecord) (rd level number granule : ℕ)
    → table_granule granules tables rd level number ≡ Some granule → HoldsTable tables granule rd level number
unfolding table_granule
table_granule-holds granules tables rd level number granule is =
    by (found_below granules (λ k. is_table_of rd level number (tables (k * 4096)))) refl is
  where
    by : (found : Option ℕ) → found_below granules (λ k. is_table_of rd level number (tables (k * 4096))) ≡ found
        → option_map (λ k. k * 4096) found ≡ Some granule
        → HoldsTable tables granule rd level number
    by None at none = absurd (none-some granule none)
    by (Some k) at some =
        subst (λ g. HoldsTable tables g rd level number) (same_Some (k * 4096) granule some)
        (is_table_of-holds tables (k * 4096) rd level number (tables (k * 4096)) refl
        (found_below-passes granules (λ j. is_table_of rd level number (tables (j * 4096))) k at).1)

-- where a granule holds a table of the place, one is found
pub table_granule-some : (granules : ℕ) (tables : ℕ → Option TableRecord) (rd level number granule : ℕ) → IsTrue (is_granule granules granule)
    → HoldsTable tables granule rd level number → (other : ℕ) × (table_granule granules tables rd level number ≡ Some other)
unfolding table_granule
table_granule-some granules tables rd level number granule within held =
    let address = granule-number granules granule within in
    let passes : IsTrue (is_table_of rd level number (tables ((granule / 4096) * 4096))) =
    subst (λ g. IsTrue (is_table_of rd level number (tables g))) address.1 (holds-is_table_of tables granule rd level number held) in
    let found = found_below-some granules (λ k. is_table_of rd level number (tables (k * 4096))) (granule / 4096) address.0 passes in
    (found.0 * 4096, ap (option_map (λ k. k * 4096)) found.1)

-- each table is the one that is found at its place
abbrev pub AreFound : ℕ → (ℕ → Option TableRecord) → Type 0
AreFound granules tables = (granule : ℕ) (t : TableRecord) → tables granule ≡ Some t
    → table_granule granules tables t.place.rd t.place.level (place_number t.place) ≡ Some granule

pub holds-found : (granules : ℕ) (tables : ℕ → Option TableRecord) (granule rd level number : ℕ) → AreFound granules tables
    → HoldsTable tables granule rd level number → table_granule granules tables rd level number ≡ Some granule
holds-found granules tables granule rd level number found held =
    sym (λ i. table_granule granules tables (held.is_realm i) (held.is_level i) (held.is_number i)) ∙ found granule held.table held.is_held

-- a table is of that place
pub record IsPlaced (t : TableRecord) (rd level number : ℕ) : Type 0 where
  pub is_realm : t.place.rd ≡ rd
  pub is_level : t.place.level ≡ level
  pub is_number : place_number t.place ≡ number

IsPlaced-test : (t : TableRecord) (rd level number other l n : ℕ) → IsPlaced t rd level number → is_same_entry rd level number other l n ≡ false
    → is_table_of other l n (Some t) ≡ false
IsPlaced-test t rd level number other l n placed apart =
    false_from_ne_true _ (λ same. spot_hit other l n t.place.rd t.place.level (place_number t.place) same
    (λ here at first. both_ways
    (same_place rd level number other l n (sym here ∙ placed.is_realm) (sym at ∙ placed.is_level) (sym first ∙ placed.is_number)) apart))

-- ---- one table changed

-- another table of the same place
pub table_granule-kept : (granules : ℕ) (tables : ℕ → Option TableRecord) (granule : ℕ) (t u : TableRecord) → tables granule ≡ Some t
    → u.place ≡ t.place → table_granule granules (put tables granule (Some u)) ≡ table_granule granules tables
unfolding table_granule
table_granule-kept granules tables granule t u at same =
    λ i rd level number. option_map (λ k. k * 4096) (found_below granules (λ k. each rd level number (k * 4096) i))
  where
    each : (rd level number address : ℕ)
        → is_table_of rd level number (put tables granule (Some u) address) ≡ is_table_of rd level number (tables address)
    each rd level number address =
        by_address (λ found. is_table_of rd level number found ≡ is_table_of rd level number (tables address))
        address granule (Some u) (tables address)
        (λ here. ap (λ p. is_same_entry rd level number p.rd p.level (place_number p)) same
        ∙ sym (ap (is_table_of rd level number) (ap tables here ∙ at)))
        (λ apart. refl)

-- a table put in where none was
pub table_granule-put : (granules : ℕ) (tables : ℕ → Option TableRecord) (granule : ℕ) (t : TableRecord) (rd level number : ℕ)
    → IsTrue (is_granule granules granule) → tables granule ≡ None → IsPlaced t rd level number
    → table_granule granules tables rd level number ≡ None → (other l n : ℕ)
    → table_granule granules (put tables granule (Some t)) other l n
    ≡ (if is_same_table rd level number other l n then Some granule else table_granule granules tables other l n)
unfolding table_granule
table_granule-put granules tables granule t rd level number within at placed none other l n = by (is_same_table rd level number other l n) refl
  where
    address : (granule / 4096 < granules) × (granule ≡ (granule / 4096) * 4096)
    address = granule-number granules granule within

    unfound : (found : Option ℕ) → option_map (λ k. k * 4096) found ≡ None → found ≡ None
    unfound None is = refl
    unfound (Some k) is = absurd (none-some (k * 4096) (sym is))

    apart_from : (k : ℕ) → (k ≡ granule / 4096 → ⊥) → (k * 4096 == granule) ≡ false
    apart_from k apart = false_from_ne_true _ (λ same. apart (let here : k * 4096 ≡ granule = eqb-true (k * 4096) granule same in omega arith))

    by : (b : Bool) → is_same_table rd level number other l n ≡ b
        → option_map (λ k. k * 4096) (found_below granules (λ k. is_table_of other l n (put tables granule (Some t) (k * 4096))))
        ≡ (if b then Some granule else option_map (λ k. k * 4096) (found_below granules (λ k. is_table_of other l n (tables (k * 4096)))))
    by true same = spot_hit rd level number other l n same (λ here below first.
        let none_here : found_below granules (λ k. is_table_of other l n (tables (k * 4096))) ≡ None =
        unfound _ (rw (here, below, first) none) in
        let passes : IsTrue (is_table_of other l n (put tables granule (Some t) ((granule / 4096) * 4096))) =
        subst (λ g. IsTrue (is_table_of other l n (put tables granule (Some t) g))) address.1
        (ap (is_table_of other l n) (put-here tables granule (Some t))
        ∙ same_place other l n t.place.rd t.place.level (place_number t.place)
        (placed.is_realm ∙ sym here) (placed.is_level ∙ sym below) (placed.is_number ∙ sym first)) in
        ap (option_map (λ k. k * 4096))
        (found_below-new granules (λ k. is_table_of other l n (tables (k * 4096)))
        (λ k. is_table_of other l n (put tables granule (Some t) (k * 4096)))
        (granule / 4096) address.0 passes
        (λ k apart. ap (is_table_of other l n) (put-elsewhere tables granule (Some t) (k * 4096) (apart_from k apart))) none_here)
        ∙ ap Some (sym address.1))
    by false apart = λ i. option_map (λ k. k * 4096) (found_below granules (λ k. each (k * 4096) i))
      where
        each : (a : ℕ) → is_table_of other l n (put tables granule (Some t) a) ≡ is_table_of other l n (tables a)
        each a = by_address (λ found. is_table_of other l n found ≡ is_table_of other l n (tables a)) a granule (Some t) (tables a)
            (λ here. IsPlaced-test t rd level number other l n placed apart ∙ sym (ap (is_table_of other l n) (ap tables here ∙ at))) (λ _. refl)

-- a table taken out
pub table_granule-taken : (granules : ℕ) (tables : ℕ → Option TableRecord) (granule : ℕ) (t : TableRecord) (rd level number : ℕ)
    → AreFound granules tables → tables granule ≡ Some t → IsPlaced t rd level number → (other l n : ℕ)
    → table_granule granules (put tables granule None) other l n
    ≡ (if is_same_table rd level number other l n then None else table_granule granules tables other l n)
unfolding table_granule
table_granule-taken granules tables granule t rd level number found at placed other l n = by (is_same_table rd level number other l n) refl
  where
    by : (b : Bool) → is_same_table rd level number other l n ≡ b
        → option_map (λ k. k * 4096) (found_below granules (λ k. is_table_of other l n (put tables granule None (k * 4096))))
        ≡ (if b then None else option_map (λ k. k * 4096) (found_below granules (λ k. is_table_of other l n (tables (k * 4096)))))
    by true same = spot_hit rd level number other l n same (λ here below first.
        ap (option_map (λ k. k * 4096)) (found_below-none granules _ (λ k. none here below first (k * 4096))))
      where
        none : other ≡ rd → l ≡ level → n ≡ number → (a : ℕ) → is_table_of other l n (put tables granule None a) ≡ false
        none here below first a = by_address (λ o. is_table_of other l n o ≡ false) a granule None (tables a) (λ _. refl)
            (λ apart. false_from_ne_true _ (λ passes.
            let held = is_table_of-holds tables a other l n (tables a) refl passes in
            let one : table_granule granules tables other l n ≡ Some a = holds-found granules tables a other l n found held in
            let two : table_granule granules tables other l n ≡ Some granule =
            holds-found granules tables granule other l n found
            (record {
              table = t;
              is_held = at;
              is_realm = placed.is_realm ∙ sym here;
              is_level = placed.is_level ∙ sym below;
              is_number = placed.is_number ∙ sym first;
            }) in
            both_ways (eq-eqb a granule (same_Some a granule (sym one ∙ two))) apart))
    by false apart = λ i. option_map (λ k. k * 4096) (found_below granules (λ k. each (k * 4096) i))
      where
        each : (a : ℕ) → is_table_of other l n (put tables granule None a) ≡ is_table_of other l n (tables a)
        each a = by_address (λ o. is_table_of other l n o ≡ is_table_of other l n (tables a)) a granule None (tables a)
            (λ here. sym (ap (is_table_of other l n) (ap tables here ∙ at) ∙ IsPlaced-test t rd level number other l n placed apart)) (λ _. refl)
