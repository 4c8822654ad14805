-- The events of a slice, one after another.
use Rattle.std.proofs.Common.{◌≡◌, ℕ, ◌+◌, ◌<◌, ◌≤◌, suc, Option, None, Some, List, [], ◌∷◌, ◌++◌, length, take, inl, inr, refl, ◌∙◌, ap, arith}
use Rattle.std.proofs.lemmas.List.{append-nil, length-take, take_all}
use Rattle.std.proofs.lemmas.Option.{slice_get_cases, slice_get_within}
use Rattle.std.specs.List.{slice_get}
use Rattle.lemmas.proofs.Elements.{slice_get-front, take-next_at}
use Rattle.rmm_spec.specs.declared.event.Event.{Event}
use Rattle.rmm_spec.specs.declared.event.Event.TheVariants.{Called, Returned}
use Rattle.rmm_spec.specs.Rows.{ok}
use Rattle.verdict_laws.specs.Slices.{delegation, events_from, lending_events, numbered, with_number}
use Rattle.slicing.specs.declared.plan.Plan.{Plan}
use Rattle.slicing.specs.Plans.{number_at}
use Rattle.slicing.proofs.PlanLaws.{number_at-before}

-- a front up to an element has so many
length-front : {X : Type 0} (xs : List X) (index : ℕ) (x : X) → slice_get xs index ≡ Some x → 0 + length (take index xs) ≡ index
length-front xs index x there =
    let within = slice_get_within xs index x there in
    omega (arith, within, length-take index xs)

-- ---- lendings

-- the granules of two lists are lent one list after the other
lending_events-append : (number : ℕ) (xs ys : List ℕ)
    → lending_events number (xs ++ ys) ≡ lending_events number xs ++ lending_events (number + length xs) ys
lending_events-append number [] ys =
    let same : number ≡ number + 0 = omega (arith) in ap (λ n. lending_events n ys) same
lending_events-append number (x ∷ xs) ys =
    let same : number + 1 + length xs ≡ number + suc (length xs) = omega (arith) in
    let next = lending_events-append (number + 1) xs ys ∙ ap (λ n. lending_events (number + 1) xs ++ lending_events n ys) same in
    ap (λ more. Called 0 number (delegation x) ∷ Returned 0 number (ok []) ∷ more) next

-- one granule more is lent
pub lending_events-next : (granules : List ℕ) (index granule : ℕ) → slice_get granules index ≡ Some granule
    → lending_events 0 (take (index + 1) granules) ≡ lending_events 0 (take index granules) ++ lending_events index (granule ∷ [])
lending_events-next granules index granule there =
    ap (λ gs. lending_events 0 gs) (take-next_at granules index granule there)
    ∙ lending_events-append 0 (take index granules) (granule ∷ [])
    ∙ ap (λ n. lending_events 0 (take index granules) ++ lending_events n (granule ∷ [])) (length-front granules index granule there)

-- ---- events with numbers

-- an event stands before all others
numbered-append : (number : Option ℕ) (event : Event) (xs ys : List Event) → numbered number event (xs ++ ys) ≡ numbered number event xs ++ ys
numbered-append None event xs ys = refl
numbered-append (Some number) event xs ys = refl

-- of two lists' events those of the one come after those of the other
events_from-append : (numbers : ℕ → Option ℕ) (place : ℕ) (xs ys : List Event)
    → events_from numbers place (xs ++ ys) ≡ events_from numbers place xs ++ events_from numbers (place + length xs) ys
events_from-append numbers place [] ys =
    let same : place ≡ place + 0 = omega (arith) in ap (λ n. events_from numbers n ys) same
events_from-append numbers place (x ∷ xs) ys =
    let same : place + 1 + length xs ≡ place + suc (length xs) = omega (arith) in
    ap (λ more. numbered (numbers place) x more)
    (events_from-append numbers (place + 1) xs ys ∙ ap (λ n. events_from numbers (place + 1) xs ++ events_from numbers n ys) same)
    ∙ numbered-append (numbers place) x (events_from numbers (place + 1) xs) (events_from numbers (place + suc (length xs)) ys)

-- one event more is taken, where it has a number
events_from-next : (numbers : ℕ → Option ℕ) (events : List Event) (place : ℕ) (event : Event) → slice_get events place ≡ Some event
    → events_from numbers 0 (take (place + 1) events) ≡ events_from numbers 0 (take place events) ++ numbered (numbers place) event []
events_from-next numbers events place event there =
    ap (λ es. events_from numbers 0 es) (take-next_at events place event there)
    ∙ events_from-append numbers 0 (take place events) (event ∷ [])
    ∙ ap (λ n. events_from numbers 0 (take place events) ++ events_from numbers n (event ∷ [])) (length-front events place event there)

module _ (numbers : ℕ → Option ℕ) (count : ℕ) (events : List Event) where
  -- what is taken of the first events up to a place
  abbrev pub taken_to : ℕ → List Event
  taken_to place = events_from numbers 0 (take place (take count events))

  -- an event with a number comes after those that are taken
  pub taken_to-next : (place number : ℕ) (event : Event) → place < count → slice_get events place ≡ Some event → numbers place ≡ Some number
      → taken_to (place + 1) ≡ taken_to place ++ with_number number event ∷ []
  taken_to-next place number event before there is_number =
      events_from-next numbers (take count events) place event (slice_get-front count events place event before there)
      ∙ ap (λ n. taken_to place ++ numbered n event []) is_number

  -- and none without one
  pub taken_to-passed : (place : ℕ) → place < count → count ≤ length events → numbers place ≡ None → taken_to (place + 1) ≡ taken_to place
  taken_to-passed place before within is_none = elim (slice_get_cases (take count events) place).1 [
    | inl there ↦
        events_from-next numbers (take count events) place there.0 there.2
        ∙ ap (λ n. taken_to place ++ numbered n there.0 []) is_none
        ∙ append-nil (taken_to place)
    | inr past ↦ absurd (let behind = past.0 in omega (arith, before, within, behind, length-take count events))
  ]

  -- in the end all are taken
  pub taken_to-all : (place : ℕ) → count ≤ place → taken_to place ≡ events_from numbers 0 (take count events)
  taken_to-all place behind =
      ap (λ es. events_from numbers 0 es) (take_all place (take count events) (omega (arith, behind, length-take count events)))

-- where none has a number none is taken
events_from-unnumbered : (numbers : ℕ → Option ℕ) (place : ℕ) (events : List Event)
    → ((n : ℕ) → n < place + length events → numbers n ≡ None) → events_from numbers place events ≡ []
events_from-unnumbered numbers place [] none = refl
events_from-unnumbered numbers place (event ∷ events) none =
    ap (λ number. numbered number event (events_from numbers (place + 1) events)) (none place (omega (arith)))
    ∙ events_from-unnumbered numbers (place + 1) events (λ n below. none n (omega (arith, below)))

-- so up to there none is taken
pub taken_to-from : (plan : Plan) (count : ℕ) (events : List Event) → taken_to (number_at plan) count events plan.from ≡ []
taken_to-from plan count events =
    let few = length-take plan.from (take count events) in
    events_from-unnumbered (number_at plan) 0 (take plan.from (take count events))
    (λ place below. number_at-before plan place (omega (arith, below, few)))
