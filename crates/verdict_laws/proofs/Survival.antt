-- What is kept behind one event more, and that with nothing kept there is no order.
use Rattle.verdict_laws.proofs.Common.{◌≡◌, ℕ, zero, suc, ◌+◌, ◌<◌, List, [], ◌∷◌, ◌++◌, inl, inr, length, Some, refl, sym, ◌∙◌, ap, subst, arith, slice_get, cases_lt, cases_order, none-some, same_Some, slice_get_within, Command, Returned, Line, Keep, Reply, History, IsHistory, State, opening, IsCalled, IsReturned, IsLinearization, count_of, LeadsNowhere}
use Rattle.verdict_laws.proofs.Configurations.{nowhere_alike}
use Rattle.verdict_laws.proofs.Growth.{IsLinearization-from_Reaches}
use Rattle.verdict_laws.specs.Forward.{IsKept, AreOpen, Gives, LeadNowhere, AllKept, AreKept, IsContinued, AreContinued}
use Rattle.verdict_laws.proofs.Counted.{count_of-append, count_of-cons_same}
use Rattle.verdict_laws.proofs.Growing.{IsKept-nil, IsKept-append}
use Rattle.verdict_laws.proofs.Looks.{nowhere_unless_looked}
use Rattle.verdict_laws.proofs.Steps.{apart_places, nowhere_unless_put}

-- one order behind a call that is made
pub IsKept-call : (history : History) (place cpu number : ℕ) (command : Command) (lines : List Line) (state : State)
    → IsCalled history.events place cpu number command → IsKept history place lines state → IsKept history (place + 1) lines state
IsKept-call history place cpu number command lines state is_called kept = record {
  reached = kept.reached;
  returned = λ other later returned given is above.
      let late = kept.returned other later returned given is above in
      elim (cases_order place returned) [
        | inl at ↦
            absurd (apart_places history.events place cpu number other later command given is_called
            (subst (λ (p : ℕ). IsReturned history.events p other later given) (sym at) is))
        | inr apart ↦ elim apart [
          | inl before ↦ omega (arith, before)
          | inr after ↦ absurd (omega (arith, late, after))
        ]
      ];
  made = λ other later called made is below. let early = kept.made other later called made is below in omega (arith, early);
}

-- and behind the return of a call that it has
pub IsKept-return : (history : History) (place cpu number : ℕ) (given : Reply) (lines : List Line) (state : State)
    → IsReturned history.events place cpu number given → number < count_of cpu lines → IsKept history place lines state
    → IsKept history (place + 1) lines state
IsKept-return history place cpu number given lines state is_returned has kept = record {
  reached = kept.reached;
  returned = λ other later returned told is above.
      let late = kept.returned other later returned told is above in
      elim (cases_order place returned) [
        | inl at ↦
            let both : Some (Returned cpu number given) ≡ Some (Returned other later told) =
            sym is_returned ∙ ap (λ (p : ℕ). slice_get history.events p) at ∙ is in
            let of_cpu : cpu ≡ other = cc in
            let numbered : number ≡ later = cc in
            let more : later < count_of other lines =
            subst (λ (n : ℕ). n < count_of other lines) numbered (subst (λ (c : ℕ). number < count_of c lines) of_cpu has) in
            absurd (omega (arith, more, above))
        | inr apart ↦ elim apart [
          | inl before ↦ omega (arith, before)
          | inr after ↦ absurd (omega (arith, late, after))
        ]
      ];
  made = λ other later called made is below. let early = kept.made other later called made is below in omega (arith, early);
}

module _ (history : History) (is_history : IsHistory history) (place cpu number : ℕ)
    (given : Reply) (returned : IsReturned history.events place cpu number given) where
  -- open calls and then the returning one behind a kept order
  pub IsKept-grown : (lines before : List Line) (old new : State) → IsKept history place lines old
      → AreOpen history.events place lines (before ++ Keep cpu number ∷ []) → Gives history.events old (before ++ Keep cpu number ∷ []) new
      → IsKept history (place + 1) (lines ++ (before ++ Keep cpu number ∷ [])) new
  IsKept-grown lines before old new kept are_open is_given =
      let numbered : number ≡ count_of cpu lines = last_number before are_open in
      let all = count_of-append cpu lines (before ++ Keep cpu number ∷ []) in
      let both = count_of-append cpu before (Keep cpu number ∷ []) in
      let one = count_of-cons_same cpu (Keep cpu number) [] refl in
      IsKept-return history place cpu number given (lines ++ (before ++ Keep cpu number ∷ [])) new returned (omega (arith, numbered, all, both, one))
      (IsKept-append history is_history place lines (before ++ Keep cpu number ∷ []) old new kept are_open is_given)
    where
      last_number : (xs : List Line) → AreOpen history.events place lines (xs ++ Keep cpu number ∷ []) → number ≡ count_of cpu lines
      last_number [] are_open = are_open.0.next.numbered
      last_number (x ∷ xs) are_open = last_number xs are_open.2

  -- a kept order leads nowhere where all do that become of it
  nowhere_continued : (lines : List Line) (state : State) (next : List (List Line)) → IsKept history place lines state
      → IsContinued history place cpu number lines state next → LeadNowhere history next → LeadsNowhere history lines
  nowhere_continued lines state next kept continued nowhere = elim (cases_lt number (count_of cpu lines)) [
    | inl has ↦
        let alike = continued.stays has in
        nowhere_alike history is_history alike.1 lines state alike.3 kept.reached alike.4 (nowhere alike.0 alike.1 alike.2)
    | inr lacks ↦
        nowhere_unless_put history is_history place lines state kept cpu number given returned lacks
        (nowhere_unless_looked history is_history place lines state kept (Keep cpu number) (λ before new look.
        let alike = continued.grows before new look in
        let grown = IsKept-append history is_history place lines (before ++ Keep cpu number ∷ []) state new kept look.are_open look.given in
        nowhere_alike history is_history alike.1 (lines ++ (before ++ Keep cpu number ∷ [])) new alike.3 grown.reached alike.4
        (nowhere alike.0 alike.1 alike.2)))
  ]

  pub AreKept-return : (orders next : List (List Line)) → AreKept history place orders → AreContinued history place cpu number orders next
      → AllKept history (place + 1) next → AreKept history (place + 1) next
  AreKept-return orders next kept continued all = record {
    all = all;
    cover = λ nowhere. kept.cover (λ i lines is.
        let at = kept.all i lines is in
        nowhere_continued lines at.0 next at.1 (continued i lines at.0 is at.1) nowhere);
  }

-- enough is kept, if each kept order leads nowhere where all do that are kept next
pub AreKept-covered : (history : History) (place : ℕ) (orders next : List (List Line)) → AreKept history place orders
    → ((i : ℕ) (lines : List Line) (state : State) → slice_get orders i ≡ Some lines → IsKept history place lines state
    → LeadNowhere history next → LeadsNowhere history lines)
    → AllKept history (place + 1) next → AreKept history (place + 1) next
AreKept-covered history place orders next kept covered all = record {
  all = all;
  cover = λ nowhere. kept.cover (λ i lines is.
      let at = kept.all i lines is in
      covered i lines at.0 is at.1 nowhere);
}

-- before the first event the order without a line is kept
pub AreKept-nil : (history : History) → AreKept history 0 ([] ∷ [])
AreKept-nil history = record { all = first; cover = λ nowhere. nowhere 0 [] refl }
  where
    first : AllKept history 0 ([] ∷ [])
    first zero lines is =
        let start = opening history.config in
        (start, subst (λ (ls : List Line). IsKept history 0 ls start) (same_Some [] lines is) (IsKept-nil history))
    first (suc i) lines is = absurd (none-some lines is)

-- each order stays kept where a call is made
pub AreKept-call : (history : History) (place cpu number : ℕ) (command : Command) (orders : List (List Line))
    → IsCalled history.events place cpu number command → AreKept history place orders → AreKept history (place + 1) orders
AreKept-call history place cpu number command orders is_called kept = record {
  all = λ i lines is. let at = kept.all i lines is in (at.0, IsKept-call history place cpu number command lines at.0 is_called at.1);
  cover = kept.cover;
}

-- with nothing kept there is no order
pub none_kept : (history : History) (place : ℕ) (lines : List Line) → AreKept history place [] → ¬ IsLinearization history lines
none_kept history place lines kept = (kept.cover (λ i other is. absurd (none-some other is))).none lines

-- what is kept behind the last event is an order of the whole
pub IsLinearization-kept : (history : History) (lines : List Line) (state : State) → IsKept history (length history.events) lines state
    → IsLinearization history lines
IsLinearization-kept history lines state kept =
    IsLinearization-from_Reaches history lines state kept.reached (λ cpu number finished. elim (cases_lt number (count_of cpu lines)) [
      | inl has ↦ has
      | inr lacks ↦
          let late = kept.returned cpu number finished.0 finished.1 finished.2 lacks in
          let within = slice_get_within history.events finished.0 (Returned cpu number finished.1) finished.2 in
          absurd (omega (arith, late, within))
    ])
