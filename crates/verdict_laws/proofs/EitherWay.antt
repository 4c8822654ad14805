-- Of two calls one comes first in each order: where a reply is denied either way, there is none.
use Rattle.verdict_laws.proofs.Common.{◌≡◌, ℕ, ◌<◌, ◌≤◌, List, [], ◌∷◌, ◌++◌, inl, inr, length, Some, sym, ◌∙◌, ap, subst, arith, cases_order, slice_get, Called, Line, History, IsHistory, IsLinearization, IsNamed, IsCalled, cpu_named, number_named, LeadsNowhere, HasOnePlaces-from_history}
use Rattle.std.proofs.Common.{take}
use Rattle.lemmas.proofs.Elements.{slice_get_push_cases}
use Rattle.spec_lemmas.proofs.HistoryGrammar.{IsHistory-take}
use Rattle.verdict_laws.specs.HeldFacts.{IsDeniedEitherWay, IsMadeAt}
use Rattle.verdict_laws.specs.Parts.{first_part}
use Rattle.verdict_laws.proofs.Counts.{slice_get-append_cases}
use Rattle.verdict_laws.proofs.FactOrders.{not-held}
use Rattle.verdict_laws.proofs.Nowhere.{line_stands}
use Rattle.verdict_laws.proofs.SliceLines.{Claim}

-- what stands before a line is one of those before it
stands_before : (lines back all : List Line) (line other : Line) (i : ℕ) → (lines ++ line ∷ []) ++ back ≡ all → slice_get all i ≡ Some other
    → i < length lines → slice_get lines i ≡ Some other
stands_before lines back all line other i same stands before =
    elim (slice_get-append_cases (lines ++ line ∷ []) back i other (ap (λ (ls : List Line). slice_get ls i) same ∙ stands)) [
      | inl among ↦ elim (slice_get_push_cases lines line i other among) [
        | inl here ↦ here
        | inr last ↦ absurd (let at = last.0 in omega (arith, at, before))
      ]
      | inr behind ↦ absurd (let long = length-longer lines in omega (arith, behind, long, before))
    ]
  where
    length-longer : (ls : List Line) → length ls ≤ length (ls ++ line ∷ [])
    length-longer [] = omega arith
    length-longer (l ∷ ls) = let more = length-longer ls in omega (arith, more)

module _ (history : History) (is_history : IsHistory history) (either : IsDeniedEitherWay history.config.granules history.events)
    (all : List Line) (valid : IsLinearization history all) where
  -- the line that names the call which returned
  named : IsNamed all either.is_other.0 either.is_other.1
  named = valid.order.complete either.is_other.0 either.is_other.1 either.is_finished

  -- one before that names the other call
  abbrev IsEarlier : Type 0
  IsEarlier = (i : ℕ) × (line : Line) × (slice_get all i ≡ Some line) × (cpu_named line ≡ either.is_made.0) × (number_named line ≡ either.is_made.1)
      × (i < named.0)

  module _ (lines back : List Line) (c : Claim history.events) (same : (lines ++ c.line ∷ []) ++ back ≡ all) where
    -- a line names the call that is made at its place
    names : (place : ℕ) (made : IsMadeAt history.events place) → place ≡ c.is_entry.called
        → (cpu_named c.line ≡ made.0) × (number_named c.line ≡ made.1)
    names place made at =
        let both : Some (Called (cpu_named c.line) (number_named c.line) c.entry.command) ≡ Some (Called made.0 made.1 made.2) =
        sym c.is_entry.is_called ∙ ap (λ (p : ℕ). slice_get history.events p) (sym at) ∙ made.3 in
        (cc, cc)

    -- it stands there
    own : slice_get all (length lines) ≡ Some c.line
    own = ap (λ (ls : List Line). slice_get ls (length lines)) (sym same) ∙ line_stands lines c.line back

    -- where the other call comes before the one that returned, it is named before that's line
    turn_earlier : IsEarlier → either.turn.second ≡ c.is_entry.called → IsNamed lines either.is_made.0 either.is_made.1
    turn_earlier (i, line, stands, of_cpu, numbered, before) at =
        let its = names either.turn.second either.is_other at in
        let one = valid.order.names.once in
        let here : length lines ≡ named.0 = elim (cases_order (length lines) named.0) [
          | inl is ↦ is
          | inr apart ↦ elim apart [
            | inl less ↦
                absurd (one (length lines) named.0 c.line named.1 less own named.2 (its.0 ∙ sym named.3, its.1 ∙ sym named.4))
            | inr more ↦
                absurd (one named.0 (length lines) named.1 c.line more named.2 own (named.3 ∙ sym its.0, named.4 ∙ sym its.1))
          ]
        ] in
        (i, line, stands_before lines back all c.line line i same stands (omega (arith, here, before)), of_cpu, numbered)

    -- where it doesn't, that one is named before its line
    turn_later : ¬ IsEarlier → either.turn.first ≡ c.is_entry.called → IsNamed lines either.is_other.0 either.is_other.1
    turn_later none at =
        let its = names either.turn.first either.is_made at in
        elim (cases_order (length lines) named.0) [
          | inl is ↦
              absurd (
              let both : Some c.line ≡ Some named.1 = sym own ∙ ap (λ (i : ℕ). slice_get all i) is ∙ named.2 in
              let line : c.line ≡ named.1 = cc in
              either.apart (at ∙ (HasOnePlaces-from_history history is_history).one_call c.is_entry.called either.turn.second
              (cpu_named c.line) (number_named c.line) c.entry.command either.is_other.2 c.is_entry.is_called
              (subst (λ (k : ℕ). IsCalled history.events either.turn.second k (number_named c.line) either.is_other.2)
              (sym (ap cpu_named line ∙ named.3))
              (subst (λ (n : ℕ). IsCalled history.events either.turn.second either.is_other.0 n either.is_other.2)
              (sym (ap number_named line ∙ named.4)) either.is_other.3))))
          | inr apart ↦ elim apart [
            | inl less ↦ absurd (none (length lines, c.line, own, its.0, its.1, less))
            | inr more ↦ (named.0, named.1, stands_before lines back all c.line named.1 named.0 same named.2 more, named.3, named.4)
          ]
        ]

  -- so there is no such order, whether it does or not
  earlier-none : ¬ IsEarlier
  earlier-none is =
      not-held history is_history all (Some either.turn) either.so
      (λ lines back c same one supposed. (
        either.is_made.0,
        either.is_made.1,
        either.is_made.2,
        subst (λ (p : ℕ). IsCalled history.events p either.is_made.0 either.is_made.1 either.is_made.2) supposed.0 either.is_made.3,
        turn_earlier lines back c same is supposed.1,
      )) valid

  pub none-either_way : ⊥
  none-either_way =
      not-held history is_history all (Some (record { first = either.turn.second; second = either.turn.first })) either.otherwise
      (λ lines back c same one supposed. (
        either.is_other.0,
        either.is_other.1,
        either.is_other.2,
        subst (λ (p : ℕ). IsCalled history.events p either.is_other.0 either.is_other.1 either.is_other.2) supposed.0 either.is_other.3,
        turn_later lines back c same earlier-none supposed.1,
      )) valid

-- so have first events none
pub nowhere-either_way : (history : History) (count : ℕ) → IsHistory history
    → IsDeniedEitherWay history.config.granules (take count history.events) → LeadsNowhere (first_part count history) []
nowhere-either_way history count is_history either = record {
  none = λ lines valid. none-either_way (first_part count history) (IsHistory-take count history is_history) either lines valid;
}
