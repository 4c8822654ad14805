-- Searches: the first granule that is held and passes does pass, and one is found where some that is held passes.
use Rattle.world_laws.proofs.Common.{◌<◌, ◌||◌, ◌∙◌, ◌∷◌, ◌≡◌, Bool, HeldCell, HoldsTable, List, None, Option, Some, [], ap, arith, false, false≢true, if◌then◌else◌, refl, suc, sym, table_behind, table_held, table_placed, true, ℕ}
use Rattle.std.proofs.Common.{zero}
use Rattle.std.specs.Prelude.{Contains}
use Rattle.std.specs.List.{fold}
use Rattle.std.proofs.lemmas.List.Folds.{fold_stays}
use Rattle.std.proofs.lemmas.Option.{none-some, same_Some}
use Rattle.rmm_spec.specs.Lookup.{any_below}
use Rattle.rmm_spec.specs.Table.{TableRecord, place_number}
use Rattle.rmm_spec.specs.Flat.{is_table_of}
use Rattle.rmm_spec.specs.Local.{granules_held}
use Rattle.rmm_laws.proofs.Cases.{spot_hit}
use Rattle.spec_lemmas.proofs.Members.{Contains-nil, Contains-other}
use Rattle.world_laws.specs.SeenState.{found_or, is_of_realm}

-- what is found passes
found-passes : (p : ℕ → Bool) (gs : List ℕ) (g : ℕ) → fold (found_or p) None gs ≡ Some g → p g ≡ true
found-passes p [] g is = absurd (none-some g is)
found-passes p (h ∷ gs) g is = by (p h) refl (found-passes p gs g) is
  where
    by : (b : Bool) → p h ≡ b → (fold (found_or p) None gs ≡ Some g → p g ≡ true)
        → fold (found_or p) (if b then Some h else None) gs ≡ Some g → p g ≡ true
    by true passes rest found =
        let same = same_Some h g (sym (fold_stays (found_or p) (Some h) (λ x. refl) gs) ∙ found) in
        ap p (sym same) ∙ passes
    by false fails rest found = rest found

-- where one that is held passes, one is found
found-some : (p : ℕ → Bool) (gs : List ℕ) (g : ℕ) → Contains gs g → p g ≡ true → (f : ℕ) × (fold (found_or p) None gs ≡ Some f)
found-some p [] g has passes = absurd (Contains-nil g has)
found-some p (h ∷ gs) g has passes = by (p h) refl (λ there. found-some p gs g there passes)
  where
    by : (b : Bool) → p h ≡ b → (Contains gs g → (f : ℕ) × (fold (found_or p) None gs ≡ Some f))
        → (f : ℕ) × (fold (found_or p) (if b then Some h else None) gs ≡ Some f)
    by true is rest = (h, fold_stays (found_or p) (Some h) (λ x. refl) gs)
    by false is rest = rest (Contains-other h gs g (λ same. false≢true (sym is ∙ (ap p same ∙ passes))) has)

-- ---- tables

-- a granule that passes holds the table of that place
pub HoldsTable-test : (tables : ℕ → Option TableRecord) (g rd level number : ℕ)
    → is_table_of rd level number (tables g) ≡ true → HoldsTable tables g rd level number
HoldsTable-test tables g rd level number passes = by (tables g) refl passes
  where
    by : (o : Option TableRecord) → tables g ≡ o → is_table_of rd level number o ≡ true → HoldsTable tables g rd level number
    by None is test = absurd (false≢true test)
    by (Some t) is test =
        spot_hit rd level number t.place.rd t.place.level (place_number t.place) test
        (λ here at first. record { table = t; is_held = is; is_realm = here; is_level = at; is_number = first })

-- the table that is found at a place is of that place
pub placed-holds : (held : List HeldCell) (rd level number g : ℕ)
    → table_placed held rd level number ≡ Some g → HoldsTable (table_held held) g rd level number
unfolding table_placed
placed-holds held rd level number g is =
    HoldsTable-test (table_held held) g rd level number
    (found-passes (λ granule. is_table_of rd level number (table_held held granule)) (granules_held held) g is)

-- where a held table is of the place, one is found
pub placed-some : (held : List HeldCell) (rd level number g : ℕ)
    → Contains (granules_held held) g → is_table_of rd level number (table_held held g) ≡ true
    → (f : ℕ) × (table_placed held rd level number ≡ Some f)
unfolding table_placed
placed-some held rd level number g has passes =
    found-some (λ granule. is_table_of rd level number (table_held held granule)) (granules_held held) g has passes

-- the table that is found behind is of the realm
pub behind-table : (held : List HeldCell) (rd g : ℕ) → table_behind held rd ≡ Some g → is_of_realm rd (table_held held g) ≡ true
unfolding table_behind
behind-table held rd g is = found-passes (λ granule. is_of_realm rd (table_held held granule)) (granules_held held) g is

-- where a held table is of the realm, one is found
pub behind-some : (held : List HeldCell) (rd g : ℕ) → Contains (granules_held held) g → is_of_realm rd (table_held held g) ≡ true
    → (f : ℕ) × (table_behind held rd ≡ Some f)
unfolding table_behind
behind-some held rd g has passes = found-some (λ granule. is_of_realm rd (table_held held granule)) (granules_held held) g has passes

-- tests that say the same of each number find the same
pub any_below-same : (n : ℕ) (p q : ℕ → Bool) → ((k : ℕ) → k < n → p k ≡ q k) → any_below n p ≡ any_below n q
any_below-same zero p q each = refl
any_below-same (suc n) p q each =
    let here : p n ≡ q n = each n (omega arith) in
    let rest : any_below n p ≡ any_below n q = any_below-same n p q (λ k within. each k (omega (arith, within))) in
    λ i. here i || rest i
