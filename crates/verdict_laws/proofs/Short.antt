-- An order has no more lines than its history has events, since each line names a call of its own.
use Rattle.verdict_laws.proofs.Common.{◌≡◌, ℕ, zero, suc, ◌<◌, ◌≤◌, true, false, eqb, List, [], ◌∷◌, inl, inr, length, Some, refl, sym, ◌∙◌, ap, subst, arith, slice_get, cases_lt, none-some, same_Some, slice_get_within, Command, Event, Called, Line, IsCalled, NamesCall, cpu_named, number_named}
use Rattle.std.proofs.Common.{get_or}
use Rattle.std.specs.List.{list_any}
use Rattle.std.proofs.lemmas.Bool.{both_ways}
use Rattle.std.proofs.lemmas.Bool.Decides.{eqb_tells}
use Rattle.std.proofs.lemmas.List.Folds.{list_any_none}
use Rattle.std.proofs.lemmas.List.Elements.{All-from_get_or}
use Rattle.std.proofs.lemmas.Map.Keys.{IsDistinct-from_apart}
use Rattle.std.proofs.lemmas.Map.Steps.{length-le_from_distinct_below}
use Rattle.std.proofs.lemmas.Option.{slice_get_cases}
use Rattle.rmm_spec.specs.Linearization.{NamesCalls}
use Rattle.lemmas.proofs.Elements.{get_or-other}

-- a place for each line: that of its call
record Placed (events : List Event) (lines : List Line) : Type 0 where
  places : List ℕ
  counted : length places ≡ length lines
  each : (i : ℕ) (line : Line) → slice_get lines i ≡ Some line
      → (command : Command) × IsCalled events (get_or places i 0) (cpu_named line) (number_named line) command

places_of : (events : List Event) (lines : List Line)
    → ((i : ℕ) (line : Line) → slice_get lines i ≡ Some line → NamesCall events line) → Placed events lines
places_of events [] known = record { places = []; counted = refl; each = λ i line is. absurd (none-some line is) }
places_of events (first ∷ lines) known =
    let call = known 0 first refl in
    let rest = places_of events lines (λ i line is. known (suc i) line is) in
    record { places = call.0 ∷ rest.places; counted = ap (λ (n : ℕ). suc n) rest.counted; each = each call rest }
  where
    each : (call : NamesCall events first) (rest : Placed events lines) (i : ℕ) (line : Line) → slice_get (first ∷ lines) i ≡ Some line
        → (command : Command) × IsCalled events (get_or (call.0 ∷ rest.places) i 0) (cpu_named line) (number_named line) command
    each call rest zero line is =
        (call.1, subst (λ (l : Line). IsCalled events call.0 (cpu_named l) (number_named l) call.1) (same_Some first line is) call.2)
    each call rest (suc i) line is = rest.each i line is

module _ (events : List Event) (lines : List Line) (names : NamesCalls events lines) (at : Placed events lines) where
  -- an element of the places is that of a line
  element : (i : ℕ) → i < length at.places → (line : Line) × (slice_get lines i ≡ Some line)
  element i within =
      let cases = slice_get_cases lines i in elim cases.1 [
        | inl there ↦ (there.0, there.2)
        | inr past ↦ let counted = at.counted in absurd (omega (arith, counted, within, past.0))
      ]

  -- two lines' calls are two
  apart : (i j d : ℕ) → i < j → j < length at.places → eqb (get_or at.places i d) (get_or at.places j d) ≡ false
  apart i j d below within = elim (eqb_tells (get_or at.places i d) (get_or at.places j d)) [
    | inr differ ↦ differ.0
    | inl same ↦
        let here = element i (omega (arith, below, within)) in
        let there = element j within in
        let one = at.each i here.0 here.1 in
        let other = at.each j there.0 there.1 in
        let places : get_or at.places i 0 ≡ get_or at.places j 0 =
        get_or-other at.places i 0 d (omega (arith, below, within)) ∙ same.1 ∙ get_or-other at.places j d 0 within in
        let both : Some (Called (cpu_named here.0) (number_named here.0) one.0) ≡ Some (Called (cpu_named there.0) (number_named there.0) other.0) =
        sym one.1 ∙ ap (λ (p : ℕ). slice_get events p) places ∙ other.1 in
        absurd (names.once i j here.0 there.0 below here.1 there.1 (cc, cc))
  ]

  -- each is a place of the history
  below : (q : ℕ) → list_any (eqb q) at.places ≡ true → q < length events
  below q among = elim (cases_lt q (length events)) [
    | inl within ↦ within
    | inr past ↦
        let none : list_any (eqb q) at.places ≡ false =
        list_any_none (eqb q) at.places (All-from_get_or (λ (x : ℕ). eqb q x ≡ false) at.places 0 (λ i inside.
        elim (eqb_tells q (get_or at.places i 0)) [
          | inr differ ↦ differ.0
          | inl same ↦
              let line = element i inside in
              let called = at.each i line.0 line.1 in
              let within = slice_get_within events (get_or at.places i 0) (Called (cpu_named line.0) (number_named line.0) called.0) called.1 in
              absurd (omega (arith, past, within, same.1))
        ])) in
        absurd (both_ways _ none among)
  ]

  short : length lines ≤ length events
  short =
      let counted = at.counted in
      let few = length-le_from_distinct_below at.places (length events) (IsDistinct-from_apart eqb at.places apart) below in
      omega (arith, counted, few)

pub length-lines : (events : List Event) (lines : List Line) → NamesCalls events lines → length lines ≤ length events
length-lines events lines names = short events lines names (places_of events lines names.known)
