-- The places of one CPU's events rise with their ranks: its calls and returns come one after the other.
use Rattle.verdict_laws.proofs.Common.{◌≡◌, ℕ, ◌<◌, ◌≤◌, Bool, List, inl, inr, ◌==◌, Some, refl, sym, ◌∙◌, ap, arith, slice_get, cases_order, cases_lt, same_Some, Command, Event, Called, Returned, Reply, History, IsHistory, IsCalled, IsReturned, IsFinished, ReturnsBefore}
use Rattle.std.proofs.lemmas.List.Sums.{length-filter, count_by-le-length}
use Rattle.rmm_spec.specs.HistoryText.{IsRecord, cpu_of, rank, subhistory_of}
use Rattle.rmm_spec.specs.Linearization.{IsKnown}
use Rattle.spec_lemmas.proofs.Places.{rank-slice_get, length-subhistory_of-lt, IsFinished-below, below-IsKnown, below-IsFinished}

-- of two events of a CPU, the one of the lower rank comes first
place_order : (cpu : ℕ) (events : List Event) → IsRecord (subhistory_of cpu events) → (place later : ℕ) (event other : Event)
    → slice_get events place ≡ Some event → slice_get events later ≡ Some other → cpu_of event ≡ cpu → cpu_of other ≡ cpu
    → rank event < rank other → place < later
place_order cpu events is_record place later event other is_event is_other same other_same below =
    let here = rank-slice_get cpu events place event is_record is_event same in
    let there = rank-slice_get cpu events later other is_record is_other other_same in
    elim (cases_lt place later) [
      | inl before ↦ before
      | inr after ↦ elim (cases_order later place) [
        | inl at ↦
            let both : Some other ≡ Some event = sym is_other ∙ ap (λ (p : ℕ). slice_get events p) at ∙ is_event in
            let ranks : rank other ≡ rank event = ap rank (same_Some other event both) in
            absurd (omega (arith, ranks, below))
        | inr apart ↦ elim apart [
          | inl before ↦ absurd (omega (arith, here, there, below, length-subhistory_of-lt cpu events later place other is_other other_same before))
          | inr before ↦ before
        ]
      ]
    ]

module _ (history : History) (is_history : IsHistory history) where
  -- a call is made before it returns
  pub call_before_return : (cpu number called returned : ℕ) (command : Command) (given : Reply) → IsCalled history.events called cpu number command
      → IsReturned history.events returned cpu number given → called < returned
  call_before_return cpu number called returned command given is_called is_returned =
      place_order cpu history.events (is_history.records cpu) called returned (Called cpu number command) (Returned cpu number given)
      is_called is_returned refl refl (omega arith)

  -- an earlier call of a CPU returns no later than a later one
  pub returns_in_order : (cpu number later returned place : ℕ) (given told : Reply)
      → number ≤ later → IsReturned history.events returned cpu number given
      → IsReturned history.events place cpu later told → returned ≤ place
  returns_in_order cpu number later returned place given told below is_returned is_later = elim (cases_lt place returned) [
    | inl before ↦
        let here = rank-slice_get cpu history.events returned (Returned cpu number given) (is_history.records cpu) is_returned refl in
        let there = rank-slice_get cpu history.events place (Returned cpu later told) (is_history.records cpu) is_later refl in
        absurd
        (omega (arith, below, here, there, length-subhistory_of-lt cpu history.events place returned (Returned cpu later told) is_later refl before))
    | inr after ↦ after
  ]

  -- a call behind which its CPU made another returned
  pub finished_before_call : (cpu number later : ℕ) → number < later → IsKnown history.events cpu later → IsFinished history.events cpu number
  finished_before_call cpu number later below known =
      let within = below-IsKnown cpu later history.events (is_history.records cpu) known in
      IsFinished-below cpu number history.events (is_history.records cpu) (omega (arith, below, within))

  -- and before the other was made
  pub returns_before_later : (cpu number later : ℕ) → number < later → IsKnown history.events cpu later
      → ReturnsBefore history.events cpu number cpu later
  returns_before_later cpu number later below known =
      let finished = finished_before_call cpu number later below known in
      record {
        returned = finished.0;
        given = finished.1;
        is_returned = finished.2;
        called = known.0;
        command = known.1;
        is_called = known.2;
        before = place_order cpu history.events (is_history.records cpu) finished.0 known.0
            (Returned cpu number finished.1) (Called cpu later known.1)
            finished.2 known.2 refl refl (omega (arith, below));
      }

  -- the calls before a finished one are finished
  pub finished_below : (cpu number later : ℕ) → number ≤ later → IsFinished history.events cpu later → IsFinished history.events cpu number
  finished_below cpu number later below finished =
      let within = below-IsFinished cpu later history.events (is_history.records cpu) finished in
      IsFinished-below cpu number history.events (is_history.records cpu) (omega (arith, below, within))

  -- a call's number is below the most lines of a history
  pub few_calls : (cpu number : ℕ) → IsKnown history.events cpu number → number < 1000000
  few_calls cpu number known =
      let test : Event → Bool = λ e. cpu_of e == cpu in
      let within = below-IsKnown cpu number history.events (is_history.records cpu) known in
      let lines = is_history.lines in
      omega (arith, within, lines, length-filter test history.events, count_by-le-length test history.events)
