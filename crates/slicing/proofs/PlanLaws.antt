-- What a plan says of places and of granules.
use Rattle.std.proofs.Common.{◌≡◌, ◌∙◌, ◌+◌, ◌<◌, ◌≤◌, ◌==◌, ℕ, suc, Bool, true, false, Bor, List, length, [], ◌∷◌, Option, Some, None, nat_eq, ap, arith, eqb-true, get_or, inl, inr, refl, subst, sym}
use Rattle.std.specs.List.{HoldsAt, slice_get}
use Rattle.std.specs.Option.{IsSome, MatchOption, option_copied, option_eq}
use Rattle.std.proofs.lemmas.Bool.{cases_Bool, cases_lt, eq-eqb, false≢true, lt-ltb}
use Rattle.std.proofs.lemmas.List.Folds.{list_any_at}
use Rattle.std.proofs.lemmas.Option.{get_or_from_slice_get, none-some, same_Some, slice_get-get_or, slice_get_past, slice_get_within}
use Rattle.lemmas.proofs.Tests.{both_ways}
use Rattle.rmm_spec.specs.Lookup.{is_granule}
use Rattle.spec_lemmas.proofs.Members.{passing_member}
use Rattle.verdict_laws.specs.Slices.{AreLent, is_lent}
use Rattle.slicing.specs.declared.plan.Plan.{Plan}
use Rattle.slicing.specs.Plans.{AreNoted, entered_at, mark_of, number_at}

-- ---- places

-- before the plan's first place no event has a number
pub number_at-before : (plan : Plan) (place : ℕ) → place < plan.from → number_at plan place ≡ None
unfolding number_at
number_at-before plan place before = rw (lt-ltb place plan.from before) refl

-- and no call is made inside of a REC
pub entered_at-before : (plan : Plan) (place : ℕ) → place < plan.from → entered_at plan place ≡ false
unfolding entered_at
entered_at-before plan place before = rw (lt-ltb place plan.from before) refl

-- so a kept call was made from there on
pub from-kept : (plan : Plan) (place : ℕ) → IsSome (number_at plan place) → plan.from ≤ place
from-kept plan place kept = elim (cases_lt place plan.from) [
  | inl before ↦ absurd (false≢true (subst IsSome (number_at-before plan place before) kept))
  | inr behind ↦ behind
]

-- ---- granules

-- a granule that is lent stands at a place
place_of_lent : (lent : List ℕ) (granule : ℕ) → is_lent lent granule ≡ true → (index : ℕ) × (slice_get lent index ≡ Some granule)
place_of_lent lent granule is =
    let found = passing_member (λ (other : ℕ). other == granule) lent is in
    (found.0, found.2 ∙ ap Some (eqb-true found.1 granule found.3))

-- granules that are noted where they stand are lent one after another, none twice
AreLent-from : (granules : ℕ) (noted : ℕ → Option ℕ) (first : ℕ) (lent : List ℕ)
    → ((index granule : ℕ) → slice_get lent index ≡ Some granule
    → (is_granule granules granule ≡ true) × (noted granule ≡ Some (first + index)))
    → AreLent granules lent
AreLent-from granules noted first [] each = tt
AreLent-from granules noted first (granule ∷ more) each = (
  (each 0 granule refl).0,
  once (is_lent more granule) refl,
  AreLent-from granules noted (suc first) more (λ index other is.
      let here = each (suc index) other is in
      let same : first + suc index ≡ suc first + index = omega arith in
      (here.0, here.1 ∙ ap Some same)),
)
  where
    once : (b : Bool) → is_lent more granule ≡ b → is_lent more granule ≡ false
    once false is = is
    once true is =
        let found = place_of_lent more granule is in
        let bad : first + 0 ≡ first + suc found.0 =
        same_Some (first + 0) (first + suc found.0) (sym (each 0 granule refl).1 ∙ (each (suc found.0) granule found.1).1) in
        absurd (omega (arith, bad))

-- the granules that a plan lends
pub AreLent-noted : (granules : ℕ) (plan : Plan) → ((index granule : ℕ) → slice_get plan.lent.items index ≡ Some granule
    → is_granule granules granule ≡ true) → AreNoted plan → AreLent granules plan.lent.items
AreLent-noted granules plan are noted =
    AreLent-from granules (λ g. (mark_of plan.marks.items g).lending) 0 plan.lent.items
    (λ index granule is.
    let same : index ≡ 0 + index = omega arith in
    (are index granule is, noted index granule is ∙ ap Some same))

-- what is found at a place of a vector
pub copied-slice_get : (found : Option (Bor ℕ)) (xs : List ℕ) (i : ℕ)
    → MatchOption found (length xs ≤ i) (λ x. (i < length xs) × HoldsAt (λ y. x.now ≡ y) xs i) → option_copied found ≡ slice_get xs i
copied-slice_get None xs i past = sym (slice_get_past xs i past)
copied-slice_get (Some x) xs i (within, at) = sym (slice_get-get_or xs i x.now within ∙ ap Some (sym (at x.now)))

-- a granule is lent where it stands at a place
is_lent-at : (lent : List ℕ) (granule index : ℕ) → slice_get lent index ≡ Some granule → is_lent lent granule ≡ true
is_lent-at lent granule index at =
    list_any_at (λ (other : ℕ). other == granule) lent index granule (slice_get_within lent index granule at)
    (eq-eqb (get_or lent index granule) granule (get_or_from_slice_get lent index granule granule at))

-- a granule that isn't noted as lent isn't lent
pub is_lent-unnoted : (plan : Plan) (granule : ℕ) → AreNoted plan → (mark_of plan.marks.items granule).lending ≡ None
    → is_lent plan.lent.items granule ≡ false
is_lent-unnoted plan granule noted none = by (is_lent plan.lent.items granule) refl
  where
    by : (b : Bool) → is_lent plan.lent.items granule ≡ b → is_lent plan.lent.items granule ≡ false
    by false is = is
    by true is =
        let found = place_of_lent plan.lent.items granule is in
        absurd (none-some found.0 (sym none ∙ noted found.0 granule found.1))

-- and one that is noted is, where it stands there
pub is_lent-noted : (plan : Plan) (granule index : ℕ) (there : Option ℕ) → AreNoted plan → (mark_of plan.marks.items granule).lending ≡ Some index
    → there ≡ slice_get plan.lent.items index → option_eq nat_eq there (Some granule) ≡ is_lent plan.lent.items granule
is_lent-noted plan granule index there noted at is = by (is_lent plan.lent.items granule) refl there is
  where
    by : (b : Bool) → is_lent plan.lent.items granule ≡ b → (there : Option ℕ) → there ≡ slice_get plan.lent.items index
        → option_eq nat_eq there (Some granule) ≡ is_lent plan.lent.items granule
    by true lent there is =
        let found = place_of_lent plan.lent.items granule lent in
        let same : index ≡ found.0 = same_Some index found.0 (sym at ∙ noted found.0 granule found.1) in
        let here : there ≡ Some granule = is ∙ ap (slice_get plan.lent.items) same ∙ found.1 in
        ap (λ (o : Option ℕ). option_eq nat_eq o (Some granule)) here ∙ eq-eqb granule granule refl ∙ sym lent
    by false lent None is = sym lent
    by false lent (Some other) is = elim (cases_Bool (nat_eq other granule)) [
      | inl same ↦
          let here : slice_get plan.lent.items index ≡ Some granule = sym is ∙ ap Some (eqb-true other granule same) in
          both_ways (is_lent-at plan.lent.items granule index here) lent
      | inr apart ↦ apart ∙ sym lent
    ]
