-- Histories and their slices: where each call and return of the one stands in the other.
use Rattle.verdict_laws.proofs.Common.{◌≡◌, ℕ, zero, suc, ◌+◌, ◌<◌, ◌≤◌, ◌⊎◌, inl, inr, Bool, List, [], ◌∷◌, ◌++◌, length, Option, Some, None, refl, sym, ◌∙◌, ap, subst, arith, slice_get, cases_lt, cases_order, none-some, same_Some, slice_get_within, Command, Event, Called, Returned, Reply, History, IsHistory, IsCalled, IsReturned, slice_get-append, HasOnePlaces-from_history}
use Rattle.verdict_laws.specs.Slices.{IsCut, IsSlice, events_from, lending_events, numbered, with_number}
use Rattle.verdict_laws.proofs.CallOrder.{call_before_return}
use Rattle.verdict_laws.proofs.Settled.{behind}

-- ---- places

-- one more, where there is a number
abbrev counted : Option ℕ → ℕ → ℕ
counted None count = count
counted (Some number) count = suc count

-- how many of so many places from this one on have numbers
abbrev index_of : (ℕ → Option ℕ) → ℕ → ℕ → ℕ
index_of numbers place zero = 0
index_of numbers place (suc p) = counted (numbers place) (index_of numbers (place + 1) p)

-- what is more stays more with one of them before it
counted-le : (o : Option ℕ) (count more : ℕ) → count ≤ more → counted o count ≤ counted o more
counted-le None count more below = below
counted-le (Some number) count more below = omega (arith, below)

-- the longer a stretch, the more of them
index_of-le : (numbers : ℕ → Option ℕ) (place p q : ℕ) → p ≤ q → index_of numbers place p ≤ index_of numbers place q
index_of-le numbers place zero q below = omega arith
index_of-le numbers place (suc p) zero below = absurd (omega (arith, below))
index_of-le numbers place (suc p) (suc q) below =
    counted-le (numbers place) _ _ (index_of-le numbers (place + 1) p q (omega (arith, below)))

-- and what is truly more does
counted-lt : (o : Option ℕ) (count more : ℕ) → count < more → counted o count < counted o more
counted-lt None count more below = below
counted-lt (Some number) count more below = omega (arith, below)

-- a stretch past a place with a number has truly more
index_of-lt : (numbers : ℕ → Option ℕ) (place p q number : ℕ) → p < q → numbers (place + p) ≡ Some number
    → index_of numbers place p < index_of numbers place q
index_of-lt numbers place p zero number below is = absurd (omega (arith, below))
index_of-lt numbers place zero (suc q) number below is =
    let here : numbers place ≡ Some number = ap numbers (omega arith) ∙ is in
    let count : counted (numbers place) (index_of numbers (place + 1) q) ≡ suc (index_of numbers (place + 1) q) =
    ap (λ (o : Option ℕ). counted o (index_of numbers (place + 1) q)) here in
    omega (arith, count)
index_of-lt numbers place (suc p) (suc q) number below is =
    counted-lt (numbers place) _ _ (index_of-lt numbers (place + 1) p q number (omega (arith, below)) (ap numbers (omega arith) ∙ is))

-- ---- events

-- an event whose place has a number stands among those, with that number
events_there : (numbers : ℕ → Option ℕ) (events : List Event) (place p number : ℕ) (event : Event) → slice_get events p ≡ Some event
    → numbers (place + p) ≡ Some number
    → slice_get (events_from numbers place events) (index_of numbers place p) ≡ Some (with_number number event)
events_there numbers [] place p number event is_event is = absurd (none-some event is_event)
events_there numbers (first ∷ events) place zero number event is_event is =
    let here : numbers place ≡ Some number = ap numbers (omega arith) ∙ is in
    ap (λ (o : Option ℕ). slice_get (numbered o first (events_from numbers (place + 1) events)) 0) here
    ∙ ap (λ (e : Event). Some (with_number number e)) (same_Some first event is_event)
events_there numbers (first ∷ events) place (suc p) number event is_event is =
    past (numbers place) (events_there numbers events (place + 1) p number event is_event (ap numbers (omega arith) ∙ is))
  where
    past : (o : Option ℕ)
        → slice_get (events_from numbers (place + 1) events) (index_of numbers (place + 1) p) ≡ Some (with_number number event)
        → slice_get (numbered o first (events_from numbers (place + 1) events)) (counted o (index_of numbers (place + 1) p))
        ≡ Some (with_number number event)
    past None there = there
    past (Some n) there = there

-- an event that stands there at an index: it comes from a place that has a number
record ComesFrom (numbers : ℕ → Option ℕ) (events : List Event) (place index : ℕ) (other : Event) : Type 0 where
  from : ℕ
  number : ℕ
  event : Event
  is_event : slice_get events from ≡ Some event
  is_number : numbers (place + from) ≡ Some number
  same : with_number number event ≡ other
  at : index_of numbers place from ≡ index

-- with an event before them it comes from the next place
comes_next : (numbers : ℕ → Option ℕ) (first : Event) (events : List Event) (place index : ℕ) (other : Event)
    → ComesFrom numbers events (place + 1) index other → ComesFrom numbers (first ∷ events) place (counted (numbers place) index) other
comes_next numbers first events place index other comes = record {
  from = suc comes.from;
  number = comes.number;
  event = comes.event;
  is_event = comes.is_event;
  is_number = ap numbers (omega arith) ∙ comes.is_number;
  same = comes.same;
  at = ap (counted (numbers place)) comes.at;
}

-- each of them does
events_back : (numbers : ℕ → Option ℕ) (events : List Event) (place index : ℕ) (other : Event)
    → slice_get (events_from numbers place events) index ≡ Some other → ComesFrom numbers events place index other
events_back numbers [] place index other is_other = absurd (none-some other is_other)
events_back numbers (first ∷ events) place index other is_other =
    by (numbers place) index refl is_other
    (λ i there. comes_next numbers first events place i other (events_back numbers events (place + 1) i other there))
  where
    by : (o : Option ℕ) (i : ℕ) → numbers place ≡ o → slice_get (numbered o first (events_from numbers (place + 1) events)) i ≡ Some other
        → ((j : ℕ) → slice_get (events_from numbers (place + 1) events) j ≡ Some other
        → ComesFrom numbers (first ∷ events) place (counted (numbers place) j) other)
        → ComesFrom numbers (first ∷ events) place i other
    by None i is there rest = subst (λ (o : Option ℕ). ComesFrom numbers (first ∷ events) place (counted o i) other) is (rest i there)
    by (Some n) zero is there rest = record {
      from = 0;
      number = n;
      event = first;
      is_event = refl;
      is_number = ap numbers (omega arith) ∙ is;
      same = same_Some (with_number n first) other there;
      at = refl;
    }
    by (Some n) (suc i) is there rest =
        subst (λ (o : Option ℕ). ComesFrom numbers (first ∷ events) place (counted o i) other) is (rest i there)

-- an element of two lists is one of the first, or of the second
in_part : {X : Type 0} (xs ys : List X) (i : ℕ) (x : X)
    → slice_get (xs ++ ys) i ≡ Some x → (slice_get xs i ≡ Some x) ⊎ ((j : ℕ) × (slice_get ys j ≡ Some x) × (length xs + j ≡ i))
in_part [] ys i x is = inr (i, is, omega arith)
in_part (y ∷ xs) ys zero x is = inl is
in_part (y ∷ xs) ys (suc i) x is = elim (in_part xs ys i x is) [
  | inl here ↦ inl here
  | inr there ↦ let at = there.2 in inr (there.0, there.1, omega (arith, at))
]

-- how many events lend granules
abbrev pub start : List ℕ → ℕ
start lent = length (lending_events 0 lent)

-- the place in the slice of what stands at one that has a number
abbrev pub place_of : (ℕ → Option ℕ) → List ℕ → ℕ → ℕ
place_of numbers lent place = start lent + index_of numbers 0 place

-- what comes earlier in the slice comes earlier in the history
pub before_back : (numbers : ℕ → Option ℕ) (lent : List ℕ) (place other : ℕ) → place_of numbers lent place < place_of numbers lent other
    → place < other
before_back numbers lent place other below = elim (cases_lt place other) [
  | inl before ↦ before
  | inr after ↦ let above = index_of-le numbers 0 other place after in absurd (omega (arith, below, above))
]

-- two places that have numbers have two there
same_place : (numbers : ℕ → Option ℕ) (lent : List ℕ) (place other number also : ℕ) → numbers place ≡ Some number → numbers other ≡ Some also
    → place_of numbers lent place ≡ place_of numbers lent other → place ≡ other
same_place numbers lent place other number also is is_too same = elim (cases_order place other) [
  | inl at ↦ at
  | inr apart ↦ elim apart [
    | inl before ↦
        let below = index_of-lt numbers 0 place other number before (ap numbers (omega arith) ∙ is) in absurd (omega (arith, below, same))
    | inr before ↦
        let below = index_of-lt numbers 0 other place also before (ap numbers (omega arith) ∙ is_too) in absurd (omega (arith, below, same))
  ]
]

module _ (history slice : History) (numbers : ℕ → Option ℕ) (lent : List ℕ) (is_slice : IsSlice history slice numbers lent) where
  -- an event of the history whose place has a number stands there, with that number
  event_there : (place number : ℕ) (event : Event) → slice_get history.events place ≡ Some event → numbers place ≡ Some number
      → slice_get slice.events (place_of numbers lent place) ≡ Some (with_number number event)
  event_there place number event is_event is =
      ap (λ (es : List Event). slice_get es (place_of numbers lent place)) is_slice.events
      ∙ behind (lending_events 0 lent) (events_from numbers 0 history.events) (index_of numbers 0 place) (with_number number event)
      (events_there numbers history.events 0 place number event is_event (ap numbers (omega arith) ∙ is))

  -- what stands in the slice lends a granule, or comes from an event of the history
  event_back : (place : ℕ) (other : Event) → slice_get slice.events place ≡ Some other
      → (slice_get (lending_events 0 lent) place ≡ Some other)
      ⊎ ((from number : ℕ) × (event : Event) × (slice_get history.events from ≡ Some event) × (numbers from ≡ Some number)
      × (with_number number event ≡ other) × (place_of numbers lent from ≡ place))
  event_back place other is_other =
      elim (in_part (lending_events 0 lent) (events_from numbers 0 history.events) place other
      (ap (λ (es : List Event). slice_get es place) (sym is_slice.events) ∙ is_other)) [
        | inl first ↦ inl first
        | inr there ↦
            let comes = events_back numbers history.events 0 there.0 other there.1 in
            let at = comes.at in
            let same = there.2 in
            inr (
              comes.from,
              comes.number,
              comes.event,
              comes.is_event,
              ap numbers (omega arith) ∙ comes.is_number,
              comes.same,
              omega (arith, at, same),
            )
      ]

  -- an event that lends a granule stands in front
  pub lending_there : (place : ℕ) (event : Event) → slice_get (lending_events 0 lent) place ≡ Some event
      → slice_get slice.events place ≡ Some event
  lending_there place event is_event =
      ap (λ (es : List Event). slice_get es place) is_slice.events
      ∙ slice_get-append (lending_events 0 lent) (events_from numbers 0 history.events) place event is_event

  -- a call of the history stands there with its number
  pub call_there : (place cpu number old : ℕ) (command : Command) → IsCalled history.events place cpu old command → numbers place ≡ Some number
      → IsCalled slice.events (place_of numbers lent place) cpu number command
  call_there place cpu number old command is_called = event_there place number (Called cpu old command) is_called

  -- and a return
  pub return_there : (place cpu number old : ℕ) (given : Reply) → IsReturned history.events place cpu old given → numbers place ≡ Some number
      → IsReturned slice.events (place_of numbers lent place) cpu number given
  return_there place cpu number old given is_returned = event_there place number (Returned cpu old given) is_returned

  -- a return of the slice lends a granule, or comes from one of the history
  pub return_back : (place cpu number : ℕ) (given : Reply) → IsReturned slice.events place cpu number given
      → IsReturned (lending_events 0 lent) place cpu number given
      ⊎ ((from old : ℕ) × IsReturned history.events from cpu old given × (numbers from ≡ Some number) × (place_of numbers lent from ≡ place))
  return_back place cpu number given is_returned = elim (event_back place (Returned cpu number given) is_returned) [
    | inl lends ↦ inl lends
    | inr there ↦ inr (named there.0 there.1 there.2 there.3 there.4 there.5 there.6)
  ]
    where
      named : (from n : ℕ) (event : Event) → slice_get history.events from ≡ Some event → numbers from ≡ Some n
          → with_number n event ≡ Returned cpu number given → place_of numbers lent from ≡ place
          → (from old : ℕ) × IsReturned history.events from cpu old given × (numbers from ≡ Some number) × (place_of numbers lent from ≡ place)
      named from n (Called c old made) is_event is same at = absurd cc
      named from n (Returned c old told) is_event is same at =
          let of_cpu : c ≡ cpu = cc in
          let numbered : n ≡ number = cc in
          let replied : told ≡ given = cc in
          (from, old, is_event ∙ (λ i. Some (Returned (of_cpu i) old (replied i))), is ∙ ap Some numbered, at)

  module _ (is_history : IsHistory history) (is_history_too : IsHistory slice) (entered : ℕ → Bool)
      (is_cut : IsCut history numbers lent entered) where
    -- a call of the slice comes from one place
    pub one_place : (place other cpu number old also : ℕ) (command made : Command) → IsCalled history.events place cpu old command
        → IsCalled history.events other cpu also made → numbers place ≡ Some number → numbers other ≡ Some number → place ≡ other
    one_place place other cpu number old also command made is_called is_made is is_too =
        same_place numbers lent place other number number is is_too
        ((HasOnePlaces-from_history slice is_history_too).one_call (place_of numbers lent place) (place_of numbers lent other) cpu number command made
        (call_there place cpu number old command is_called is) (call_there other cpu number also made is_made is_too))

    -- the return of a kept call comes from its return
    pub kept_return : (called place cpu number old : ℕ) (command : Command) (given : Reply) → IsCalled history.events called cpu old command
        → numbers called ≡ Some number → IsReturned slice.events place cpu number given
        → (from : ℕ) × IsReturned history.events from cpu old given × (place_of numbers lent from ≡ place)
    kept_return called place cpu number old command given is_called is is_returned = elim (return_back place cpu number given is_returned) [
      | inl lends ↦
          let within = slice_get_within (lending_events 0 lent) place (Returned cpu number given) lends in
          let made = call_before_return slice is_history_too cpu number (place_of numbers lent called) place command given
          (call_there called cpu number old command is_called is) is_returned in
          absurd (omega (arith, within, made))
      | inr back ↦
          let known = (HasOnePlaces-from_history history is_history).is_known cpu back.1 (back.0, given, back.2) in
          let pair = is_cut.pairs known.0 back.0 cpu back.1 known.1 given known.2 back.2 in
          let at = one_place known.0 called cpu number back.1 old known.1 command known.2 is_called (sym pair ∙ back.3) is in
          let both : Some (Called cpu back.1 known.1) ≡ Some (Called cpu old command) =
          sym known.2 ∙ ap (λ (p : ℕ). slice_get history.events p) at ∙ is_called in
          let same : back.1 ≡ old = cc in
          (back.0, back.2 ∙ ap (λ (n : ℕ). Some (Returned cpu n given)) same, back.4)
    ]
