-- The next call that is tried first, CPU by CPU.
use Rattle.finding.proofs.Common.{◌+◌, ◌<◌, ◌^◌, ◌≡◌, ◌≤◌, Choice, History, IsFinished, IsHistory, IsLeast, IsNextCall, List, None, Option, Reply, Some, arith, cases_lt, inl, inr, rank_of, refl, slice_get_within, subst, sym, ℕ}
use Rattle.std.proofs.Common.{get_or}
use Rattle.std.specs.Option.{MatchOption}
use Rattle.rmm_spec.specs.declared.event.Event.{Event}
use Rattle.rmm_spec.specs.declared.event.Event.TheVariants.{Returned}
use Rattle.rmm_spec.specs.Linearization.{IsReturned, IsKnown}
use Rattle.history.specs.Calls.{ArePlacesOf}
use Rattle.history.specs.declared.history.Places.{Places}
use Rattle.spec_lemmas.proofs.Calls.{HasOnePlaces}
use Rattle.finding.specs.Choice.{pending_rank, rank_at}

-- a finished call is tried at the place of its return
pub rank_returned : (events : List Event) → HasOnePlaces events
    → (cpu number place : ℕ) (given : Reply) (places : Places) → ArePlacesOf events cpu number places
    → IsReturned events place cpu number given → rank_at cpu places.returned ≡ place
rank_returned events one cpu number place given places are is_returned = at places.returned are.returned
  where
    at : (o : Option ℕ)
        → MatchOption o (¬ IsFinished events cpu number) (λ p. (told : Reply) × IsReturned events p cpu number told) → rank_at cpu o ≡ place
    at None pending = absurd (pending (place, given, is_returned))
    at (Some p) told = one.one_return p place cpu number told.0 given told.1 is_returned

-- a call that hasn't returned is tried behind all returns
pub rank_pending : (events : List Event) (cpu number : ℕ) (places : Places) → ArePlacesOf events cpu number places
    → ¬ IsFinished events cpu number → rank_at cpu places.returned ≡ pending_rank cpu
rank_pending events cpu number places are pending = at places.returned are.returned
  where
    at : (o : Option ℕ) → MatchOption o (¬ IsFinished events cpu number) (λ p. (told : Reply) × IsReturned events p cpu number told)
        → rank_at cpu o ≡ pending_rank cpu
    at None none = refl
    at (Some p) told = absurd (pending (p, told.0, told.1))

-- a call that is tried before all that haven't returned has returned at its rank
pub returned_first : (events : List Event) (choice : Choice) → ArePlacesOf events choice.cpu choice.number choice.places → rank_of choice < 1000000
    → (given : Reply) × IsReturned events (rank_of choice) choice.cpu choice.number given
returned_first events choice are = at choice.places.returned are.returned
  where
    at : (o : Option ℕ)
        → MatchOption o (¬ IsFinished events choice.cpu choice.number) (λ p. (told : Reply) × IsReturned events p choice.cpu choice.number told)
        → rank_at choice.cpu o < 1000000 → (given : Reply) × IsReturned events (rank_at choice.cpu o) choice.cpu choice.number given
    at None pending below = absurd (omega (arith, below))
    at (Some p) told below = told

-- every rank is small
pub rank_small : (history : History) → IsHistory history → (choice : Choice)
    → ArePlacesOf history.events choice.cpu choice.number choice.places → choice.cpu < 8
    → rank_of choice < 2 ^ 31
rank_small history is_history choice are few = at choice.places.returned are.returned
  where
    at : (o : Option ℕ)
        → MatchOption o (¬ IsFinished history.events choice.cpu choice.number)
        (λ p. (told : Reply) × IsReturned history.events p choice.cpu choice.number told)
        → rank_at choice.cpu o < 2 ^ 31
    at None pending = omega (arith, few)
    at (Some p) told =
        let within = slice_get_within history.events p (Returned choice.cpu choice.number told.0) told.1 in
        let lines = is_history.lines in
        omega (arith, within, lines)

-- a CPU that has no next call
pub IsLeast-past : (events : List Event) → HasOnePlaces events → (counts : List ℕ) (from bound least : ℕ) → IsLeast events counts from bound least
    → ¬ IsKnown events bound (get_or counts bound 0) → IsLeast events counts from (bound + 1) least
IsLeast-past events one counts from bound least so_far unknown = record {
  returned = λ cpu place given within is_returned late. elim (cases_lt cpu bound) [
    | inl before ↦ so_far.returned cpu place given before is_returned late
    | inr after ↦
        let at : cpu ≡ bound = omega (arith, after, within) in
        absurd (unknown (one.is_known bound (get_or counts bound 0)
        (subst (λ (c : ℕ). IsFinished events c (get_or counts c 0)) at (place, given, is_returned))))
  ];
  pending = λ cpu within known none late. elim (cases_lt cpu bound) [
    | inl before ↦ so_far.pending cpu before known none late
    | inr after ↦
        let at : cpu ≡ bound = omega (arith, after, within) in
        absurd (unknown (subst (λ (c : ℕ). IsKnown events c (get_or counts c 0)) at known))
  ];
}

-- a lower bound says less
pub IsLeast-lower : (events : List Event) (counts : List ℕ) (from bound least lower : ℕ) → lower ≤ least → IsLeast events counts from bound least
    → IsLeast events counts from bound lower
IsLeast-lower events counts from bound least lower low so_far = record {
  returned = λ cpu place given within is_returned late.
      let least = so_far.returned cpu place given within is_returned late in omega (arith, low, least);
  pending = λ cpu within known none late. let least = so_far.pending cpu within known none late in omega (arith, low, least);
}

-- a CPU's next call may be tried sooner than those before
pub IsLeast-sooner : (history : History) → HasOnePlaces history.events → (counts : List ℕ) (from bound before new : ℕ) (choice : Choice)
    → IsLeast history.events counts from bound before → IsNextCall history counts 0 choice → choice.cpu ≡ bound
    → new ≤ before → (from ≤ rank_of choice → new ≤ rank_of choice) → IsLeast history.events counts from (bound + 1) new
IsLeast-sooner history one counts from bound before new choice so_far next of_cpu no_later sooner = record {
  returned = λ cpu place given within is_returned late. elim (cases_lt cpu bound) [
    | inl below ↦
        let least = so_far.returned cpu place given below is_returned late in
        omega (arith, least, no_later)
    | inr after ↦
        let at : cpu ≡ choice.cpu = omega (arith, after, within, of_cpu) in
        let here : IsReturned history.events place choice.cpu (get_or counts choice.cpu 0) given =
        subst (λ (c : ℕ). IsReturned history.events place c (get_or counts c 0) given) at is_returned in
        let is_next : IsReturned history.events place choice.cpu choice.number given =
        subst (λ (n : ℕ). IsReturned history.events place choice.cpu n given) (sym next.numbered) here in
        let rank = rank_returned history.events one choice.cpu choice.number place given choice.places next.places is_next in
        let least = sooner (omega (arith, late, rank)) in
        omega (arith, least, rank)
  ];
  pending = λ cpu within known none late. elim (cases_lt cpu bound) [
    | inl below ↦
        let least = so_far.pending cpu below known none late in
        omega (arith, least, no_later)
    | inr after ↦
        let at : cpu ≡ choice.cpu = omega (arith, after, within, of_cpu) in
        let here : ¬ IsFinished history.events choice.cpu (get_or counts choice.cpu 0) =
        subst (λ (c : ℕ). ¬ IsFinished history.events c (get_or counts c 0)) at none in
        let is_next : ¬ IsFinished history.events choice.cpu choice.number =
        subst (λ (n : ℕ). ¬ IsFinished history.events choice.cpu n) (sym next.numbered) here in
        let rank = rank_pending history.events choice.cpu choice.number choice.places next.places is_next in
        let least = sooner (omega (arith, late, rank, at)) in
        omega (arith, least, rank, at)
  ];
}
