-- Whether a table has an entry that is looked for: by itself where it is held, and elsewhere by the held tables under it.
use Rattle.command_core.proofs.Common.{◌&&◌, ◌*◌, ◌+◌, ◌-◌, ◌<◌, ◌==◌, ◌||◌, ◌∙◌, ◌∷◌, ◌≡◌, Bool, Config, HeldCell, List, None, Option, Some, [], any_below, ap, arith, eq-eqb, false, false≢true, granules_held, if◌then◌else◌, is_some, length, list_any, nat_le, nat_tests, none-some, refl, seen_state, suc, sym, table_held, table_placed, true, zero, ℕ}
use Rattle.std.proofs.Common.{◌/◌, ◌%◌, nat_lt, slice_get}
use Rattle.std.specs.Prelude.{IfSome}
use Rattle.std.specs.List.{fold}
use Rattle.std.specs.Option.{option_and_then}
use Rattle.std.proofs.lemmas.Bool.{or_left, or_right, false_from_ne_true, ltb-false, le-leb}
use Rattle.std.proofs.lemmas.List.Folds.{fold_stays, list_any_at}
use Rattle.std.proofs.lemmas.Option.{get_or_from_slice_get}
use Rattle.rmm_spec.specs.declared.entry.Entry.{Entry}
use Rattle.rmm_spec.specs.declared.entry.Entry.TheVariants.{Unassigned, Table}
use Rattle.rmm_spec.specs.declared.entry.EntryTest.{EntryTest}
use Rattle.rmm_spec.specs.declared.entry.EntryTest.TheVariants.{Live, Link, Unlike}
use Rattle.rmm_spec.specs.declared.tag.Ripas.TheVariants.{Empty}
use Rattle.rmm_spec.specs.Table.{TableRecord, place_number}
use Rattle.rmm_spec.specs.TableCells.{leaf_of}
use Rattle.rmm_spec.specs.Walk.{is_table, passes, linked_entry, entry_at, has_entry}
use Rattle.rmm_spec.specs.Flat.{is_table_of}
use Rattle.rmm_laws.proofs.Cases.{spot_hit}
use Rattle.spec_lemmas.proofs.Placed.{passing_below, any_below-from}
use Rattle.spec_lemmas.proofs.TableSearches.{search-places}
use Rattle.world_laws.specs.SeenState.{found_or, entry_in, entry_held, table_seen, leaf_seen}
use Rattle.world_laws.proofs.Found.{placed-holds, any_below-same}
use Rattle.world_laws.proofs.Tables.{entry-seen}
use Rattle.command_core.specs.Standing.{StandsIn, IsHeldTable, is_under, is_above_held}

-- ---- where the table is held

-- where a search finds nothing, each element fails the test
none-at : {X : Type 0} (test : X → Bool) (xs : List X) (k : ℕ) (x : X)
    → k < length xs → slice_get xs k ≡ Some x → list_any test xs ≡ false → test x ≡ false
none-at test xs k x below at none =
    false_from_ne_true (test x)
    (λ is. false≢true (sym none ∙ list_any_at test xs k x below (ap test (get_or_from_slice_get xs k x x at) ∙ is)))

-- what is held in the granule where a table is found is the table
pub stands-found : (held : List HeldCell) (rd level number granule : ℕ) (found : Option TableRecord)
    → table_placed held rd level number ≡ Some granule
    → found ≡ table_held held granule → IfSome found (λ (t : TableRecord). length t.entries ≡ 512) → IsHeldTable held rd level number found
stands-found held rd level number granule None at is whole =
    let holds = placed-holds held rd level number granule at in absurd (none-some holds.table (is ∙ holds.is_held))
stands-found held rd level number granule (Some t) at is whole = record { granule = granule; is_found = at; is_held = sym is; is_whole = whole }

module _ (config : Config) (held : List HeldCell) (rd level number : ℕ) (t : TableRecord) (stands : StandsIn held rd level number t) where
  its_entry : (k : ℕ) → k < 512 → (e : Entry) → slice_get t.entries k ≡ Some e → entry_held held rd level (512 * number + k) ≡ Some e
  unfolding entry_held
  its_entry k below e at =
      let up : (512 * number + k) / 512 ≡ number = omega (arith, below) in
      let low : (512 * number + k) % 512 ≡ k = omega (arith, below) in
      ap (λ n. option_and_then (λ g. entry_in ((512 * number + k) % 512) (table_held held g)) (table_placed held rd level n)) up
      ∙ ap (option_and_then (λ g. entry_in ((512 * number + k) % 512) (table_held held g))) stands.is_found
      ∙ ap (entry_in ((512 * number + k) % 512)) stands.is_held
      ∙ ap (slice_get t.entries) low
      ∙ at

  -- a search through the table is one through the state's entries, where no link at the last level is among them
  pub search-held : (test : EntryTest) → (nat_le 3 level && list_any is_table t.entries) ≡ false
      → list_any (passes test) t.entries ≡ has_entry (seen_state config held) rd level number test
  unfolding has_entry
  search-held test leaves =
      let last : nat_lt level 3 ≡ false → list_any is_table t.entries ≡ false =
      λ past. ap (λ (b : Bool). b && list_any is_table t.entries) (sym (le-leb 3 level (ltb-false level 3 past))) ∙ leaves in
      search-places (passes test) t.entries (λ k. passes test (entry_at (seen_state config held) rd level (512 * number + k)))
      (λ k e below at. ap (passes test)
      (sym (entry-seen config held rd level (512 * number + k) e (its_entry k (omega (arith, below, stands.is_whole)) e at)
      (λ past. none-at is_table t.entries k e below at (last past)))))
      ∙ ap (λ n. any_below n (λ k. passes test (entry_at (seen_state config held) rd level (512 * number + k)))) stands.is_whole

-- ---- searches through what is held, for any of some numbers

same_when : (a b : Bool) → (a ≡ true → b ≡ true) → (b ≡ true → a ≡ true) → a ≡ b
same_when true b there back = sym (there refl)
same_when false b there back = sym (false_from_ne_true b (λ is. false≢true (back is)))

-- what is found first passes, and so something passes
found-any : (p q : ℕ → Bool) → ((g : ℕ) → p g ≡ true → q g ≡ true) → (gs : List ℕ) → is_some (fold (found_or p) None gs) ≡ true → list_any q gs ≡ true
found-any p q each [] found = absurd (false≢true found)
found-any p q each (h ∷ gs) found = by (p h) refl (found-any p q each gs) found
  where
    by : (b : Bool) → p h ≡ b → (is_some (fold (found_or p) None gs) ≡ true → list_any q gs ≡ true)
        → is_some (fold (found_or p) (if b then Some h else None) gs) ≡ true → (q h || list_any q gs) ≡ true
    by true passes rest found = or_left (q h) (list_any q gs) (each h passes)
    by false fails rest found = or_right (q h) (list_any q gs) (rest found)

-- one that passes is found, or an earlier one
here-found : (p : ℕ → Bool) (h : ℕ) (gs : List ℕ) → p h ≡ true → is_some (fold (found_or p) None (h ∷ gs)) ≡ true
here-found p h gs passes =
    ap (λ (b : Bool). is_some (fold (found_or p) (if b then Some h else None) gs)) passes
    ∙ ap (λ (o : Option ℕ). is_some o) (fold_stays (found_or p) (Some h) (λ x. refl) gs)

later-found : (p : ℕ → Bool) (h : ℕ) (gs : List ℕ) → is_some (fold (found_or p) None gs) ≡ true → is_some (fold (found_or p) None (h ∷ gs)) ≡ true
later-found p h gs found = by (p h)
  where
    by : (b : Bool) → is_some (fold (found_or p) (if b then Some h else None) gs) ≡ true
    by true = ap (λ (o : Option ℕ). is_some o) (fold_stays (found_or p) (Some h) (λ x. refl) gs)
    by false = found

any-found : (n : ℕ) (p : ℕ → ℕ → Bool) (q : ℕ → Bool) → ((g : ℕ) → q g ≡ true → (k : ℕ) × (k < n) × (p k g ≡ true))
    → (gs : List ℕ) → list_any q gs ≡ true → (k : ℕ) × (k < n) × (is_some (fold (found_or (p k)) None gs) ≡ true)
any-found n p q each [] some = absurd (false≢true some)
any-found n p q each (h ∷ gs) some = by (q h) refl (any-found n p q each gs) some
  where
    by : (b : Bool) → q h ≡ b → (list_any q gs ≡ true → (k : ℕ) × (k < n) × (is_some (fold (found_or (p k)) None gs) ≡ true))
        → (b || list_any q gs) ≡ true → (k : ℕ) × (k < n) × (is_some (fold (found_or (p k)) None (h ∷ gs)) ≡ true)
    by true passes rest some = let at = each h passes in (at.0, at.1, here-found (p at.0) h gs at.2)
    by false fails rest some = let at = rest some in (at.0, at.1, later-found (p at.0) h gs at.2)

-- for some number one is found where one passes that passes for some number
found-below : (n : ℕ) (p : ℕ → ℕ → Bool) (q : ℕ → Bool) → ((k g : ℕ) → k < n → p k g ≡ true → q g ≡ true)
    → ((g : ℕ) → q g ≡ true → (k : ℕ) × (k < n) × (p k g ≡ true)) → (gs : List ℕ)
    → any_below n (λ k. is_some (fold (found_or (p k)) None gs)) ≡ list_any q gs
found-below n p q there back gs =
    same_when (any_below n (λ k. is_some (fold (found_or (p k)) None gs))) (list_any q gs)
    (λ any. let k = passing_below n (λ k. is_some (fold (found_or (p k)) None gs)) any in found-any (p k.0) q (λ g is. there k.0 g k.1 is) gs k.2)
    (λ some. let k = any-found n p q back gs some in any_below-from n (λ k. is_some (fold (found_or (p k)) None gs)) k.0 k.1 k.2)

-- ---- where the table isn't held

-- a link passes each test
link_passes : (test : EntryTest) (granule : ℕ) → passes test (Table granule) ≡ true
link_passes Live granule = refl
link_passes Link granule = refl
link_passes (Unlike (Unassigned ripas)) granule = refl
link_passes (Unlike _) granule = refl

none-below : (n : ℕ) → any_below n (λ k. false) ≡ false
none-below zero = refl
none-below (suc n) = none-below n

-- a search that the last number passes finds it
last-below : (n : ℕ) (test : ℕ → Bool) → test n ≡ true → any_below (suc n) test ≡ true
last-below n test is = ap (λ (b : Bool). b || any_below n test) is

-- a table is under one where its number is of that one's entries
under-from : (rd level number k : ℕ) → k < 512 → (o : Option TableRecord)
    → is_table_of rd level (512 * number + k) o ≡ true → is_under rd level number o ≡ true
under-from rd level number k within None is = is
under-from rd level number k within (Some t) is =
    spot_hit rd level (512 * number + k) t.place.rd t.place.level (place_number t.place) is
    (λ here at first. let up : place_number t.place / 512 ≡ number = omega (arith, within, first) in
    rw (eq-eqb t.place.rd rd here, eq-eqb t.place.level level at, eq-eqb (place_number t.place / 512) number up) refl)

under-at : (rd level number : ℕ) (o : Option TableRecord) → is_under rd level number o ≡ true
    → (k : ℕ) × (k < 512) × (is_table_of rd level (512 * number + k) o ≡ true)
under-at rd level number None is = absurd (false≢true is)
under-at rd level number (Some t) is =
    spot_hit rd level number t.place.rd t.place.level (place_number t.place / 512) is
    (λ here at up. let again : place_number t.place ≡ 512 * number + place_number t.place % 512 = omega (arith, up) in (
      place_number t.place % 512,
      omega arith,
      rw (eq-eqb t.place.rd rd here, eq-eqb t.place.level level at, eq-eqb (place_number t.place) (512 * number + place_number t.place % 512) again)
          refl,
    ))

module _ (config : Config) (held : List HeldCell) (rd level number : ℕ) (none : table_placed held rd level number ≡ None) where
  no_entry-held : (n : ℕ) → n / 512 ≡ number → entry_held held rd level n ≡ None
  unfolding entry_held
  no_entry-held n up =
      ap (λ m. option_and_then (λ g. entry_in (n % 512) (table_held held g)) (table_placed held rd level m)) up
      ∙ ap (option_and_then (λ g. entry_in (n % 512) (table_held held g))) none

  seen-placed : (n : ℕ) → n / 512 ≡ number → table_seen held rd (level + 1) n ≡ table_placed held rd (level + 1) n
  unfolding table_seen
  seen-placed n up =
      let below : (level + 1 == 0) ≡ false = grind (arith, nat_tests) in
      let above : level + 1 - 1 ≡ level = omega arith in
      rw (below, above, no_entry-held n up) refl

  -- where no table has an entry, it is a link where a table stands below it, and else it has nothing
  told-below : (test : EntryTest) (n : ℕ) → n / 512 ≡ number
      → passes test (entry_at (seen_state config held) rd level n)
      ≡ (if nat_lt level 3 && is_some (table_placed held rd (level + 1) n) then true else passes test (Unassigned Empty))
  unfolding entry_at seen_state leaf_seen
  told-below test n up = by (nat_lt level 3)
    where
      told : (o : Option ℕ) → passes test (linked_entry o None) ≡ (if is_some o then true else passes test (Unassigned Empty))
      told (Some g) = link_passes test g
      told None = refl

      by : (b : Bool)
          → passes test (linked_entry (if b then table_seen held rd (level + 1) n else None) (option_and_then leaf_of (entry_held held rd level n)))
          ≡ (if b && is_some (table_placed held rd (level + 1) n) then true else passes test (Unassigned Empty))
      by true =
          (λ i. passes test (linked_entry (seen-placed n up i) (option_and_then leaf_of (no_entry-held n up i))))
          ∙ told (table_placed held rd (level + 1) n)
      by false = ap (λ (o : Option Entry). passes test (linked_entry None (option_and_then leaf_of o))) (no_entry-held n up)

  placed-under : any_below 512 (λ k. is_some (table_placed held rd (level + 1) (512 * number + k)))
      ≡ list_any (λ g. is_under rd (level + 1) number (table_held held g)) (granules_held held)
  unfolding table_placed
  placed-under =
      found-below 512 (λ k g. is_table_of rd (level + 1) (512 * number + k) (table_held held g))
      (λ g. is_under rd (level + 1) number (table_held held g))
      (λ k g within is. under-from rd (level + 1) number k within (table_held held g) is)
      (λ g is. under-at rd (level + 1) number (table_held held g) is)
      (granules_held held)

  -- some entry passes where one that has nothing does, or where a held table stands under this one
  pub search-unheld : (test : EntryTest)
      → (passes test (Unassigned Empty) || is_above_held held rd level number) ≡ has_entry (seen_state config held) rd level number test
  unfolding has_entry is_above_held
  search-unheld test =
      by (passes test (Unassigned Empty)) (nat_lt level 3)
      ∙ sym (any_below-same 512 (λ k. passes test (entry_at (seen_state config held) rd level (512 * number + k)))
      (λ k. if nat_lt level 3 && is_some (table_placed held rd (level + 1) (512 * number + k)) then true else passes test (Unassigned Empty))
      (λ k within. told-below test (512 * number + k) (omega (arith, within))))
    where
      either : (b : Bool) → (if b then true else true) ≡ true
      either true = refl
      either false = refl

      plain : (b : Bool) → b ≡ (if b then true else false)
      plain true = refl
      plain false = refl

      by : (vacant b : Bool) → (vacant || (b && list_any (λ g. is_under rd (level + 1) number (table_held held g)) (granules_held held)))
          ≡ any_below 512 (λ k. if b && is_some (table_placed held rd (level + 1) (512 * number + k)) then true else vacant)
      by true b = sym (last-below 511 (λ k. if b && is_some (table_placed held rd (level + 1) (512 * number + k)) then true else true) (either _))
      by false true =
          sym placed-under
          ∙ any_below-same 512 (λ k. is_some (table_placed held rd (level + 1) (512 * number + k)))
          (λ k. if is_some (table_placed held rd (level + 1) (512 * number + k)) then true else false)
          (λ k within. plain (is_some (table_placed held rd (level + 1) (512 * number + k))))
      by false false = sym (none-below 512)
