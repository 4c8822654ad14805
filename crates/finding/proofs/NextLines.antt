-- What is left behind the next line of an order that is begun.
use Rattle.finding.proofs.Common.{State, inl, inr, ◌++◌, ◌+◌, ◌<◌, ◌^◌, ◌∙◌, ◌∷◌, ◌≡◌, ◌≤◌, [], Choice, History, IsFinished, IsHistory, IsLeast, IsNextCall, LeadsNowhere, Line, List, None, Option, Reply, Some, TriedIn, Unfinished, ap, arith, cpu_named, number_named, rank_of, refl, state_of, subst, sym, ℕ}
use Rattle.std.proofs.Common.{Bool, false, true}
use Rattle.rmm_spec.specs.declared.line.Line.TheVariants.{Keep}
use Rattle.rmm_spec.specs.Linearization.{IsOfItsKind, IsReturned}
use Rattle.verdict_laws.specs.Order.{count_of}
use Rattle.verdict_laws.proofs.CallOrder.{call_before_return}
use Rattle.verdict_laws.proofs.Settled.{nowhere_settled}
use Rattle.verdict_laws.proofs.Groups.{nowhere_unless_inside}
use Rattle.finding.specs.Attempt.{IsTriedNext, MayTry}
use Rattle.finding.specs.Begun.{GoesBehind, Holds, IsGroup, IsLost, IsNextLine, IsSoon, MayStand}
use Rattle.finding.specs.declared.attempt.Attempt.{Attempt}
use Rattle.finding.specs.declared.begun.Begun.{Begun}
use Rattle.finding.specs.declared.next_line.NextLine.TheVariants as next_line
use Rattle.finding.specs.declared.left.Left.{Left}
use Rattle.finding.proofs.Attempts.{nowhere_kept, pending_at}
use Rattle.finding.proofs.BegunLaws.{MayTry-begun, Tried-attempt}
use Rattle.finding.proofs.Choices.{returned_first}
use Rattle.finding.proofs.OfferLaws.{returned_at}
use Rattle.finding.specs.Settled.{IsRefusedHere}
use Rattle.finding.specs.Settled.{IsGivenHere, IsSettledHere}
use Rattle.verdict_laws.proofs.Looked.{nowhere_looked}
use Rattle.verdict_laws.proofs.UnreadOrders.{nowhere_extended}
use Rattle.finding.proofs.Growing.{Grows-refused, Grows-returned, IsNextCall-0}
use Rattle.finding.proofs.TriedLaws.{IsKept-open, ReturnBehind-called, Tried-passed, counted, each_nowhere, of_machine, too_late}

-- by its parts
pub Tried-left : (history : History) (group : ℕ → Bool) (lines : List Line) (from : ℕ) (above : Option ℕ) (left : Left) → left.from ≡ from
    → left.above ≡ above → TriedIn history group lines from above → TriedIn history group lines left.from left.above
Tried-left history group lines from above left of_from of_above tried =
    subst (λ (f : ℕ). TriedIn history group lines f left.above) (sym of_from)
    (subst (λ (a : Option ℕ). TriedIn history group lines from a) (sym of_above) tried)

-- a call that was made by the first return can
pub IsSoon-called : (history : History) → IsHistory history → (begun : Begun) (first : Choice)
    → IsLeast history.events begun.front.counts 0 history.config.cpus (rank_of first) → (from : ℕ) (choice : Choice)
    → IsNextCall history begun.front.counts from choice → choice.places.called ≤ rank_of first → IsSoon history begun choice
IsSoon-called history is_history begun first is_least from choice next early = λ lines holds.
    ReturnBehind-called history is_history lines (state_of begun.machine) holds.reached begun.front.counts holds.counts (rank_of first) is_least
    choice.places.called choice.cpu choice.number next.places.called.0 next.places.called.1 early

-- a call that is refused as it was changes nothing, so that an order leads nowhere where it does with the call behind it
IsLost-refused : (history : History) → IsHistory history → (begun : Begun) (choice : Choice) → IsNextCall history begun.front.counts 0 choice
    → IsSoon history begun choice → IsRefusedHere history (state_of begun.machine) choice
    → ((lines : List Line) → Holds history begun lines → LeadsNowhere history (lines ++ Keep choice.cpu choice.number ∷ []))
    → IsLost history begun
unfolding Grows-refused
IsLost-refused history is_history begun choice next soon refused nowhere = record {
  nowhere = λ lines holds.
      nowhere_settled history is_history lines (state_of begun.machine) holds.reached choice.cpu choice.number
      (Grows-refused history is_history lines (state_of begun.machine) begun.front.counts choice holds.counts next (soon lines holds) refused)
      refused.refusal (nowhere lines holds);
}

-- nor does one that only looks, or that extends a measurement where none is read
IsLost-given : (history : History) → IsHistory history → (begun : Begun) (choice : Choice) → IsNextCall history begun.front.counts 0 choice
    → IsSoon history begun choice → IsGivenHere history (state_of begun.machine) choice
    → ((lines : List Line) → Holds history begun lines → LeadsNowhere history (lines ++ Keep choice.cpu choice.number ∷ []))
    → IsLost history begun
unfolding Grows-returned
IsLost-given history is_history begun choice next soon given nowhere = record {
  nowhere = λ lines holds.
      let grows = Grows-returned history is_history lines (state_of begun.machine) given.new begun.front.counts choice holds.counts next
      (soon lines holds) given.place given.given given.is_returned given.command given.is_called given.step in
      elim given.at_once [
        | inl looks ↦ nowhere_looked history is_history lines (state_of begun.machine) holds.reached choice.cpu choice.number given.new grows looks
            (nowhere lines holds)
        | inr extends ↦ nowhere_extended history lines (state_of begun.machine) given.new choice.cpu choice.number is_history extends.0 holds.reached
            grows extends.1 (nowhere lines holds)
      ];
}

-- so that of a call that may come next at once nothing else need be tried
pub IsLost-settled : (history : History) → IsHistory history → (begun : Begun) (choice : Choice) → IsNextCall history begun.front.counts 0 choice
    → IsSoon history begun choice → IsSettledHere history (state_of begun.machine) choice
    → ((lines : List Line) → Holds history begun lines → LeadsNowhere history (lines ++ Keep choice.cpu choice.number ∷ []))
    → IsLost history begun
IsLost-settled history is_history begun choice next soon settled nowhere = elim settled [
  | inl refused ↦ IsLost-refused history is_history begun choice next soon refused nowhere
  | inr given ↦ IsLost-given history is_history begun choice next soon given nowhere
]

-- it has returned
pub IsFinished-settled : (history : History) (state : State) (choice : Choice) → IsSettledHere history state choice
    → IsFinished history.events choice.cpu choice.number
IsFinished-settled history state choice settled = elim settled [
  | inl refused ↦ (refused.place, refused.given, refused.is_returned)
  | inr given ↦ (given.place, given.given, given.is_returned)
]

module _ (history : History) (is_history : IsHistory history) (begun : Begun) (group : ℕ → Bool) (left : Left) where
  module _ (first : Choice) (is_first : IsNextCall history begun.front.counts 0 first)
      (is_least : IsLeast history.events begun.front.counts 0 history.config.cpus (rank_of first)) (below : rank_of first < 1000000) where
    -- the call that returns first, at its rank
    first_returned : (given : Reply) × IsReturned history.events (rank_of first) first.cpu first.number given
    first_returned = returned_first history.events first is_first.places below

    -- no call of the group is left to try
    pub IsNextLine-none : IsGroup history begun first group → (least : ℕ)
        → IsLeast history.events begun.front.counts left.from history.config.cpus least → 2 ^ 32 ≤ least
        → IsNextLine history begun group left next_line.None
    IsNextLine-none is_group least none_sooner past = λ lines holds tried.
        let at : first.number ≡ count_of first.cpu lines =
        is_first.numbered ∙ counted history is_history lines (state_of begun.machine) holds.reached begun.front.counts holds.counts first.cpu
        is_first.of_machine in
        let kept = IsKept-open history is_history lines (state_of begun.machine) holds.reached begun.front.counts holds.counts (rank_of first)
        is_least first.cpu first.number first_returned.0 first_returned.1 (omega (arith, at)) in
        nowhere_unless_inside history is_history (rank_of first) lines (state_of begun.machine) kept first.cpu first.number
        (λ line. group (cpu_named line)) is_group.has_first
        (λ line other outside inside. is_group.passes lines line other kept holds outside inside)
        (λ line new inside is_open given.
        each_nowhere history is_history lines (state_of begun.machine) holds.reached begun.front.counts holds.counts group left.from left.above
        tried least none_sooner past line inside is_open.next)
        first_returned.0 first_returned.1 (omega (arith, at))

    -- the first call was made before it returned
    pub IsSoon-first : IsSoon history begun first
    IsSoon-first = IsSoon-called history is_history begun first is_least 0 first is_first called_first
      where
        called_first : first.places.called ≤ rank_of first
        called_first =
            let made = is_first.places.called in
            let before = call_before_return history is_history first.cpu first.number first.places.called (rank_of first) made.0 first_returned.0
            made.1 first_returned.1 in
            omega (arith, before)

    -- an order leads nowhere with no other call in the group, where the call leads nowhere behind it
    pub IsLost-alone : IsGroup history begun first group → ((cpu : ℕ) → cpu < 8 → group cpu ≡ true → cpu ≡ first.cpu)
        → ((lines : List Line) → Holds history begun lines → LeadsNowhere history (lines ++ Keep first.cpu first.number ∷ []))
        → IsLost history begun
    IsLost-alone is_group alone nowhere = record {
      nowhere = λ lines holds.
          let at : first.number ≡ count_of first.cpu lines =
          is_first.numbered ∙ counted history is_history lines (state_of begun.machine) holds.reached begun.front.counts holds.counts first.cpu
          is_first.of_machine in
          let kept = IsKept-open history is_history lines (state_of begun.machine) holds.reached begun.front.counts holds.counts (rank_of first)
          is_least first.cpu first.number first_returned.0 first_returned.1 (omega (arith, at)) in
          nowhere_unless_inside history is_history (rank_of first) lines (state_of begun.machine) kept first.cpu first.number
          (λ line. group (cpu_named line)) is_group.has_first
          (λ line other outside inside. is_group.passes lines line other kept holds outside inside)
          (λ line new inside is_open given.
          let within = of_machine history is_history lines (state_of begun.machine) holds.reached begun.front.counts holds.counts
          (cpu_named line) (number_named line) is_open.next.known in
          let few = is_history.config.most_cpus in
          let same = alone (cpu_named line) (omega (arith, within, few)) inside in
          nowhere_kept history lines first.cpu first.number (rank_of first, first_returned.0, first_returned.1) (nowhere lines holds) line same
          (is_open.next.numbered ∙ ap (λ (c : ℕ). count_of c lines) same ∙ sym at) is_open.next.kind)
          first_returned.0 first_returned.1 (omega (arith, at));
    }

    -- a call that was made behind the first return can't come next
    pub GoesBehind-late : (choice : Choice) → IsNextCall history begun.front.counts left.from choice
        → IsLeast history.events begun.front.counts left.from history.config.cpus (rank_of choice) → rank_of first < choice.places.called
        → (new : Left) → new.from ≡ rank_of choice + 1 → new.above ≡ None → GoesBehind history begun group left new
    GoesBehind-late choice next none_sooner late new from above = λ lines holds tried.
        Tried-left history group lines (rank_of choice + 1) None new from above
        (Tried-passed history is_history lines
        (state_of begun.machine) holds.reached begun.front.counts holds.counts group left.from left.above tried choice next none_sooner
        (λ inside. too_late history is_history lines
        (state_of begun.machine) holds.reached begun.front.counts holds.counts 0 left.from first choice is_first next
        (rank_of first) first_returned.0 first_returned.1 late))

  module _ (choice : Choice) (next : IsNextCall history begun.front.counts left.from choice)
      (none_sooner : IsLeast history.events begun.front.counts left.from history.config.cpus (rank_of choice)) where
    -- a call outside of the group needn't
    pub GoesBehind-outside : group choice.cpu ≡ false → (new : Left) → new.from ≡ rank_of choice + 1 → new.above ≡ None
        → GoesBehind history begun group left new
    GoesBehind-outside outside new from above = λ lines holds tried.
        Tried-left history group lines (rank_of choice + 1) None new from above
        (Tried-passed history is_history lines
        (state_of begun.machine) holds.reached begun.front.counts holds.counts group left.from left.above tried choice next none_sooner
        (λ inside. absurd (let both : false ≡ true = sym outside ∙ inside in let bad : ⊥ = cc in bad)))

  module _ (choice : Choice) (next : IsNextCall history begun.front.counts left.from choice)
      (none_sooner : IsLeast history.events begun.front.counts left.from history.config.cpus (rank_of choice))
      (soon : IsSoon history begun choice) where
    -- the line of a call that has returned
    pub MayStand-kept : (place : ℕ) → choice.places.returned ≡ Some place → (new : Left) → new.from ≡ rank_of choice + 1 → new.above ≡ None
        → MayStand history begun group left choice (Keep choice.cpu choice.number) new
    MayStand-kept place some new from above =
        let told = returned_at history.events choice.cpu choice.number place choice.places next.places some in
        let finished : IsFinished history.events choice.cpu choice.number = (place, told.0, told.1) in
        record {
          next = IsNextCall-0 history begun.front.counts left.from choice next;
          of_cpu = refl;
          numbered = refl;
          kind = finished;
          soon = soon;
          resumes = λ lines holds nowhere tried.
              Tried-left history group lines (rank_of choice + 1) None new from above
              (Tried-passed history is_history lines
              (state_of begun.machine) holds.reached begun.front.counts holds.counts group left.from left.above tried choice next
              none_sooner (λ inside. nowhere_kept history lines choice.cpu choice.number finished nowhere));
        }

    module _ (held : Option ℕ) (is_held : (bound : ℕ) → held ≡ Some bound → (left.above ≡ Some bound) × (rank_of choice ≡ left.from))
        (inside : group choice.cpu ≡ true) where
      -- one that hasn't has no line that is left
      pub GoesBehind-pending : ((lines : List Line)
          → MayTry history lines (state_of begun.machine) choice held → IsTriedNext history lines choice None)
          → (new : Left) → new.from ≡ rank_of choice + 1 → new.above ≡ None → GoesBehind history begun group left new
      GoesBehind-pending none new from above = λ lines holds tried.
          Tried-left history group lines (rank_of choice + 1) None new from above
          (Tried-passed history is_history lines
          (state_of begun.machine) holds.reached begun.front.counts holds.counts group left.from left.above tried choice next
          none_sooner (λ of_group. none lines
          (MayTry-begun history is_history lines (state_of begun.machine) holds.reached begun.front.counts holds.counts left.from left.above
          choice next none_sooner group inside tried held is_held)))

      -- or this one
      pub MayStand-pending : choice.places.returned ≡ None → (made : Attempt)
          → ((lines : List Line) → MayTry history lines (state_of begun.machine) choice held → IsTriedNext history lines choice (Some made))
          → ((claimed : Reply) × (made.line ≡ Unfinished choice.cpu choice.number claimed))
          → MayStand history begun group left choice made.line made.left
      MayStand-pending pending made tries line = record {
        next = IsNextCall-0 history begun.front.counts left.from choice next;
        of_cpu = ap cpu_named line.1;
        numbered = ap number_named line.1;
        kind = subst (IsOfItsKind history.events) (sym line.1) (pending_at history choice next.places pending);
        soon = soon;
        resumes = λ lines holds nowhere tried.
            Tried-attempt history is_history lines
            (state_of begun.machine) holds.reached begun.front.counts holds.counts left.from left.above choice next none_sooner
            group tried made (tries lines
            (MayTry-begun history is_history lines (state_of begun.machine) holds.reached begun.front.counts holds.counts left.from left.above
            choice next none_sooner group inside tried held is_held)) nowhere;
      }
