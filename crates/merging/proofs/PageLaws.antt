-- A page that keeps its value has no granule's name: the names of a memory's granules lie in it.
use Rattle.std.proofs.Common.{◌≡◌, ℕ, suc, ◌+◌, ◌*◌, ◌/◌, ◌%◌, ◌<◌, Bool, true, false, ◌&&◌, ◌||◌, List, [], ◌∷◌, ◌++◌, map, Option, Some, None, refl, sym, ap, ◌∙◌, subst, arith}
use Rattle.std.specs.Prelude.{◌==◌, nat_lt, eqb, is_some, IsSome, option_map, unwrap_or, if◌then◌else◌}
use Rattle.std.specs.List.{AllByRecursion, IsDistinct, list_any}
use Rattle.std.proofs.lemmas.Bool.{and_parts, eqb-true, eqb-false, ne_eqb, eq-eqb, ltb-true, lt-ltb}
use Rattle.std.proofs.lemmas.List.{length-map}
use Rattle.std.proofs.lemmas.Map.Steps.{length-le_from_distinct_below}
use Rattle.std.proofs.lemmas.Option.{none-some}
use Rattle.spec_lemmas.proofs.Texts.{AllByRecursion-append}
use Rattle.merging.specs.Laws.{ArePagesApart, IsNamedGranule}
use Rattle.merging.specs.Names.{is_granule, number_in, added, names_from}
use Rattle.merging.proofs.NameLaws.{added-new, added-old, map_none, number_in-below, number_in-apart}
use Rattle.lemmas.proofs.Options.{none_of}

module _ (memory : ℕ) where
  -- names of the memory's granules, of which no two are one
  record AreGranules (names : List ℕ) : Type 0 where
    each : AllByRecursion (λ a. is_granule memory a ≡ true) names
    apart : IsDistinct eqb names

  parts : (a : ℕ) → is_granule memory a ≡ true → (a % 4096 ≡ 0) × (a < memory)
  parts a is =
      let both = and_parts (a % 4096 == 0) (nat_lt a memory) is in
      (eqb-true (a % 4096) 0 both.0, ltb-true a memory both.1)

  -- ---- one more name

  absent_if : (t : Bool) (name address : ℕ) (names : List ℕ) → (name == address) ≡ t
      → (if t then Some 0 else option_map suc (number_in names address)) ≡ None
      → (number_in names address ≡ None → AllByRecursion (λ n. eqb n address ≡ false) names)
      → AllByRecursion (λ n. eqb n address ≡ false) (name ∷ names)
  absent_if true name address names is e later = absurd (none-some 0 (sym e))
  absent_if false name address names is e later = (is, later (map_none (number_in names address) e))

  absent : (names : List ℕ) (address : ℕ) → number_in names address ≡ None → AllByRecursion (λ n. eqb n address ≡ false) names
  absent [] address none = tt
  absent (name ∷ names) address none = absent_if (name == address) name address names refl none (absent names address)

  distinct-push : (names : List ℕ) (address : ℕ) → IsDistinct eqb names → AllByRecursion (λ name. eqb name address ≡ false) names
      → IsDistinct eqb (names ++ address ∷ [])
  unfolding IsDistinct
  distinct-push [] address apart none = (tt, tt)
  distinct-push (name ∷ names) address apart none =
      (AllByRecursion-append (λ y. eqb name y ≡ false) names (address ∷ []) apart.0 (none.0, tt), distinct-push names address apart.1 none.1)

  AreGranules-added : (names : List ℕ) (address : ℕ) → AreGranules names → is_granule memory address ≡ true → AreGranules (added names address)
  AreGranules-added names address are is = by_test (is_some (number_in names address)) refl
    where
      by_test : (t : Bool) → is_some (number_in names address) ≡ t → AreGranules (added names address)
      by_test true old = subst AreGranules (sym (added-old names address old)) are
      by_test false new = subst AreGranules (sym (added-new names address new)) (record {
        each = AllByRecursion-append (λ a. is_granule memory a ≡ true) names (address ∷ []) are.each (is, tt);
        apart = distinct-push names address are.apart (absent names address (none_of (number_in names address) new));
      })

  AreGranules-names_from : (names addresses : List ℕ) → AreGranules names → AllByRecursion (λ a. is_granule memory a ≡ true) addresses
      → AreGranules (names_from names addresses)
  AreGranules-names_from names [] are each = are
  AreGranules-names_from names (address ∷ addresses) are each =
      AreGranules-names_from (added names address) addresses (AreGranules-added names address are each.0) each.1

  -- ---- there are no more than the memory has granules

  abbrev numbers : List ℕ → List ℕ
  numbers names = map (λ a. a / 4096) names

  apart_numbers : (name : ℕ) (names : List ℕ) → is_granule memory name ≡ true → AllByRecursion (λ a. is_granule memory a ≡ true) names
      → AllByRecursion (λ y. eqb name y ≡ false) names → AllByRecursion (λ y. eqb (name / 4096) y ≡ false) (numbers names)
  apart_numbers name [] is each apart = tt
  apart_numbers name (first ∷ names) is each apart = (
    ne_eqb (name / 4096) (first / 4096)
        (λ same. eqb-false name first apart.0 (omega (arith, same, (parts name is).0, (parts first each.0).0))),
    apart_numbers name names is each.1 apart.1,
  )

  distinct_numbers : (names : List ℕ) → AllByRecursion (λ a. is_granule memory a ≡ true) names → IsDistinct eqb names → IsDistinct eqb (numbers names)
  unfolding IsDistinct
  distinct_numbers [] each apart = tt
  distinct_numbers (name ∷ names) each apart = (apart_numbers name names each.0 each.1 apart.0, distinct_numbers names each.1 apart.1)

  below_if : (t : Bool) (name q : ℕ) (names : List ℕ)
      → eqb q (name / 4096) ≡ t → is_granule memory name ≡ true → (t || list_any (eqb q) (numbers names)) ≡ true
      → (list_any (eqb q) (numbers names) ≡ true → q < (memory + 4095) / 4096) → q < (memory + 4095) / 4096
  below_if true name q names is granule e later = omega (arith, eqb-true q (name / 4096) is, (parts name granule).0, (parts name granule).1)
  below_if false name q names is granule e later = later e

  below : (names : List ℕ) → AllByRecursion (λ a. is_granule memory a ≡ true) names → (q : ℕ) → list_any (eqb q) (numbers names) ≡ true
      → q < (memory + 4095) / 4096
  below [] each q found = absurd cc
  below (name ∷ names) each q found = below_if (eqb q (name / 4096)) name q names refl each.0 found (below names each.1 q)

  -- so a name is a granule's address
  named_within : (names : List ℕ) (address n : ℕ) → AreGranules names → number_in names address ≡ Some n → is_granule memory (4096 * n) ≡ true
  named_within names address n are is =
      let few =
      length-le_from_distinct_below (numbers names) ((memory + 4095) / 4096) (distinct_numbers names are.each are.apart) (below names are.each) in
      let less : 4096 * n < memory = omega (arith, few, length-map names (λ a. a / 4096), number_in-below names address n is) in
      let whole : (4096 * n) % 4096 ≡ 0 = omega arith in
      ap (λ b. b && nat_lt (4096 * n) memory) (eq-eqb ((4096 * n) % 4096) 0 whole) ∙ lt-ltb (4096 * n) memory less

  -- ---- pages

  none_is : (names : List ℕ) (word : ℕ) → number_in names word ≡ None → IsSome (number_in names word) → ⊥
  none_is names word none some = cc

  pages_apart : (names : List ℕ) (word other : ℕ) (o p : Option ℕ)
      → AreGranules names → IsNamedGranule memory names word → IsNamedGranule memory names other
      → number_in names word ≡ o → number_in names other ≡ p
      → unwrap_or (option_map (λ n. 4096 * n) o) word ≡ unwrap_or (option_map (λ n. 4096 * n) p) other → word ≡ other
  pages_apart names word other None None are own its is also same = same
  pages_apart names word other (Some n) None are own its is also same =
      absurd (none_is names other also (its (subst (λ a. is_granule memory a ≡ true) same (named_within names word n are is))))
  pages_apart names word other None (Some m) are own its is also same =
      absurd (none_is names word is (own (subst (λ a. is_granule memory a ≡ true) (sym same) (named_within names other m are also))))
  pages_apart names word other (Some n) (Some m) are own its is also same =
      let equal : m ≡ n = omega (arith, same) in
      number_in-apart names word other n is (also ∙ ap Some equal)

none_apart : IsDistinct eqb []
unfolding IsDistinct
none_apart = tt

pub ArePagesApart-named : (memory granules : ℕ) (addresses : List ℕ) → ArePagesApart memory addresses granules
ArePagesApart-named memory granules addresses each word other own its same =
    pages_apart memory (names_from [] addresses) word other _ _
    (AreGranules-names_from memory [] addresses (record { each = tt; apart = none_apart }) each) own its refl refl same
