-- What was tried behind an order, call by call in the order in which they are tried.
use Rattle.finding.proofs.Common.{◌++◌, ◌+◌, ◌<◌, ◌^◌, ◌∙◌, ◌∷◌, ◌≡◌, ◌≤◌, Choice, History, IsFinished, IsHistory, IsLeast, IsNextCall, LeadsNowhere, Line, List, None, Option, Reply, Some, State, TriedIn, Unfinished, [], ap, arith, cases_lt, cpu_named, number_named, inl, inr, rank_of, slice_get, slice_get_within, subst, sym, ℕ}
use Rattle.std.proofs.Common.{Bool, true, get_or}
use Rattle.std.specs.Option.{MatchOption}
use Rattle.std.proofs.lemmas.Option.{none-some}
use Rattle.rmm_spec.specs.declared.command.Command.{Command}
use Rattle.rmm_spec.specs.declared.event.Event.TheVariants.{Called, Returned}
use Rattle.rmm_spec.specs.declared.line.Line.TheVariants.{Keep}
use Rattle.rmm_spec.specs.Rows.{ok}
use Rattle.rmm_spec.specs.Linearization.{IsCalled, IsReturned, IsKnown, ReturnsBefore}
use Rattle.spec_lemmas.proofs.Places.{call_is_event, finished_is_known}
use Rattle.verdict_laws.specs.Order.{count_of, HasOpen, IsNext, Reaches, ReturnBehind}
use Rattle.verdict_laws.proofs.CallOrder.{finished_below, returns_in_order}
use Rattle.verdict_laws.proofs.Nowhere.{nowhere_after, nowhere_past, nowhere_unless}
use Rattle.finding.specs.Attempt.{EndsLeadNowhere}
use Rattle.finding.specs.Begun.{HasReturned}
use Rattle.finding.specs.Choice.{pending_rank, rank_at}
use Rattle.finding.specs.Counts.{AreCounts}
use Rattle.finding.specs.Tried.{CallLeadsNowhere}
use Rattle.verdict_laws.specs.Forward.{IsKept}

module _ (history : History) (is_history : IsHistory history) (lines : List Line) (state : State)
    (reached : Reaches history lines state) (counts : List ℕ) (are_counts : AreCounts counts lines) where
  -- a call is of one of the machine's CPUs
  pub of_machine : (cpu number : ℕ) → IsKnown history.events cpu number → cpu < history.config.cpus
  of_machine cpu number known = (call_is_event history known.0 cpu number known.1 is_history known.2).0

  few_cpus : (cpu : ℕ) → cpu < history.config.cpus → cpu < 8
  few_cpus cpu within = let most = is_history.config.most_cpus in omega (arith, within, most)

  -- the count that is kept of a CPU
  pub counted : (cpu : ℕ) → cpu < history.config.cpus → get_or counts cpu 0 ≡ count_of cpu lines
  counted cpu within = are_counts.each cpu (few_cpus cpu within)

  finished_of_machine : (cpu number : ℕ) → IsFinished history.events cpu number → cpu < history.config.cpus
  finished_of_machine cpu number finished = of_machine cpu number (finished_is_known cpu number history.events (is_history.records cpu) finished)

  -- a return stands in the history
  return_within : (place cpu number : ℕ) (given : Reply) → IsReturned history.events place cpu number given → place < 1000000
  return_within place cpu number given is_returned =
      let within = slice_get_within history.events place (Returned cpu number given) is_returned in
      let few = is_history.lines in
      omega (arith, within, few)

  module _ (group : ℕ → Bool) (from : ℕ) (above : Option ℕ) (tried : TriedIn history group lines from above) (least : ℕ)
      (is_least : IsLeast history.events counts from history.config.cpus least) where
    -- a finished call that is tried before the least one
    pub before_returned : (cpu number place : ℕ) (given : Reply) → group cpu ≡ true → IsReturned history.events place cpu number given
        → place < least → LeadsNowhere history (lines ++ Keep cpu number ∷ [])
    before_returned cpu number place given inside is_returned below = elim (cases_lt place from) [
      | inl early ↦ tried.returned cpu number place given inside is_returned early
      | inr late ↦ nowhere_unless history is_history lines state reached (Keep cpu number) (λ next.
          let within = of_machine cpu number next.known in
          let numbered : number ≡ get_or counts cpu 0 = next.numbered ∙ sym (counted cpu within) in
          let is_next : IsReturned history.events place cpu (get_or counts cpu 0) given =
          subst (λ (n : ℕ). IsReturned history.events place cpu n given) numbered is_returned in
          let no_sooner = is_least.returned cpu place given within is_next late in
          absurd (omega (arith, no_sooner, below)))
    ]

    -- one that hasn't returned
    pub before_pending : (cpu number : ℕ) (claimed : Reply) → group cpu ≡ true → ¬ IsFinished history.events cpu number
        → pending_rank cpu < least → LeadsNowhere history (lines ++ Unfinished cpu number claimed ∷ [])
    before_pending cpu number claimed inside pending below = elim (cases_lt (pending_rank cpu) from) [
      | inl early ↦ tried.pending cpu number claimed inside pending early
      | inr late ↦ nowhere_unless history is_history lines state reached (Unfinished cpu number claimed) (λ next.
          let within = of_machine cpu number next.known in
          let numbered : number ≡ get_or counts cpu 0 = next.numbered ∙ sym (counted cpu within) in
          let is_next : IsKnown history.events cpu (get_or counts cpu 0) = subst (λ (n : ℕ). IsKnown history.events cpu n) numbered next.known in
          let is_pending : ¬ IsFinished history.events cpu (get_or counts cpu 0) =
          subst (λ (n : ℕ). ¬ IsFinished history.events cpu n) numbered pending in
          let no_sooner = is_least.pending cpu within is_next is_pending late in
          absurd (omega (arith, no_sooner, below)))
    ]

    -- no next call of the group is left to try
    pub each_nowhere : 2 ^ 32 ≤ least → (line : Line) → group (cpu_named line) ≡ true → IsNext history.events lines line
        → LeadsNowhere history (lines ++ line ∷ [])
    each_nowhere past (Keep cpu number) inside next =
        let finished = next.kind in
        let within = return_within finished.0 cpu number finished.1 finished.2 in
        before_returned cpu number finished.0 finished.1 inside finished.2 (omega (arith, past, within))
    each_nowhere past (Unfinished cpu number claimed) inside next =
        let within = few_cpus cpu (of_machine cpu number next.known) in
        before_pending cpu number claimed inside next.kind (omega (arith, past, within))

    -- no call is left to try
    pub all_nowhere : ((cpu : ℕ) → group cpu ≡ true) → HasOpen history.events lines → 2 ^ 32 ≤ least → LeadsNowhere history lines
    all_nowhere all is_open past =
        nowhere_after history is_history lines state reached is_open (λ line next. each_nowhere past line (all (cpu_named line)) next)

  module _ (group : ℕ → Bool) (from : ℕ) (above : Option ℕ) (tried : TriedIn history group lines from above) (choice : Choice)
      (next : IsNextCall history counts from choice) (is_least : IsLeast history.events counts from history.config.cpus (rank_of choice)) where
    -- the call that is tried at a finished call's rank is that call
    returned_here : (group choice.cpu ≡ true → CallLeadsNowhere history lines choice.cpu choice.number) → (cpu number place : ℕ) (given : Reply)
        → group cpu ≡ true → IsReturned history.events place cpu number given → rank_of choice ≡ place
        → LeadsNowhere history (lines ++ Keep cpu number ∷ [])
    returned_here nowhere cpu number place given inside is_returned = at choice.places.returned next.places.returned
      where
        at : (o : Option ℕ) → MatchOption o (¬ IsFinished history.events choice.cpu choice.number)
            (λ p. (told : Reply) × IsReturned history.events p choice.cpu choice.number told)
            → rank_at choice.cpu o ≡ place → LeadsNowhere history (lines ++ Keep cpu number ∷ [])
        at None pending same =
            let within = return_within place cpu number given is_returned in
            absurd (omega (arith, within, same))
        at (Some p) told same =
            let both : Some (Returned cpu number given) ≡ Some (Returned choice.cpu choice.number told.0) =
            sym is_returned ∙ ap (λ (q : ℕ). slice_get history.events q) (sym same) ∙ told.1 in
            let of_cpu : cpu ≡ choice.cpu = cc in
            let numbered : number ≡ choice.number = cc in
            nowhere (subst (λ (c : ℕ). group c ≡ true) of_cpu inside) (Keep cpu number) of_cpu numbered (place, given, is_returned)

    -- and so where it hasn't returned
    pending_cpu : (cpu : ℕ) → rank_of choice ≡ pending_rank cpu → cpu ≡ choice.cpu
    pending_cpu cpu = at choice.places.returned next.places.returned
      where
        at : (o : Option ℕ) → MatchOption o (¬ IsFinished history.events choice.cpu choice.number)
            (λ p. (told : Reply) × IsReturned history.events p choice.cpu choice.number told)
            → rank_at choice.cpu o ≡ pending_rank cpu → cpu ≡ choice.cpu
        at None pending same = omega (arith, same)
        at (Some p) told same =
            let within = return_within p choice.cpu choice.number told.0 told.1 in
            absurd (omega (arith, within, same))

    -- a next call of the CPU is the choice
    pending_here : (cpu number : ℕ) (claimed : Reply) → cpu ≡ choice.cpu
        → (number ≡ choice.number → LeadsNowhere history (lines ++ Unfinished cpu number claimed ∷ []))
        → LeadsNowhere history (lines ++ Unfinished cpu number claimed ∷ [])
    pending_here cpu number claimed of_cpu nowhere =
        nowhere_unless history is_history lines state reached (Unfinished cpu number claimed) (λ is_next.
        let within = of_machine cpu number is_next.known in
        let numbered : number ≡ choice.number =
        is_next.numbered ∙ sym (counted cpu within) ∙ ap (λ (c : ℕ). get_or counts c 0) of_cpu ∙ sym next.numbered in
        nowhere numbered)

    -- each line of the call leads nowhere, where it is of the group
    pub Tried-passed : (group choice.cpu ≡ true → CallLeadsNowhere history lines choice.cpu choice.number)
        → TriedIn history group lines (rank_of choice + 1) None
    Tried-passed nowhere = record {
      returned = λ cpu number place given inside is_returned below. elim (cases_lt place (rank_of choice)) [
        | inl before ↦ before_returned group from above tried (rank_of choice) is_least cpu number place given inside is_returned before
        | inr at ↦ returned_here nowhere cpu number place given inside is_returned (omega (arith, at, below))
      ];
      pending = λ cpu number claimed inside pending below. elim (cases_lt (pending_rank cpu) (rank_of choice)) [
        | inl before ↦ before_pending group from above tried (rank_of choice) is_least cpu number claimed inside pending before
        | inr at ↦
            let of_cpu = pending_cpu cpu (omega (arith, at, below)) in
            pending_here cpu number claimed of_cpu (λ numbered.
            nowhere (subst (λ (c : ℕ). group c ≡ true) of_cpu inside) (Unfinished cpu number claimed) of_cpu numbered pending)
      ];
      ended = λ cpu number end bound inside pending at is. absurd (none-some bound is);
    }

    -- each that isn't below the bound leads nowhere
    pub Tried-ended : (bound : Option ℕ) → EndsLeadNowhere history lines choice bound → TriedIn history group lines (rank_of choice) bound
    Tried-ended bound nowhere = record {
      returned = λ cpu number place given inside is_returned before.
          before_returned group from above tried (rank_of choice) is_least cpu number place given inside is_returned before;
      pending = λ cpu number claimed inside pending before.
          before_pending group from above tried (rank_of choice) is_least cpu number claimed inside pending before;
      ended = λ cpu number end least_end inside pending at is within.
          let of_cpu = pending_cpu cpu (sym at) in
          pending_here cpu number (ok (end ∷ [])) of_cpu (λ numbered.
          subst (λ (c : ℕ). LeadsNowhere history (lines ++ Unfinished c number (ok (end ∷ [])) ∷ [])) (sym of_cpu)
          (subst (λ (n : ℕ). LeadsNowhere history (lines ++ Unfinished choice.cpu n (ok (end ∷ [])) ∷ [])) (sym numbered)
          (nowhere end least_end is within)));
    }

  -- each open call returned at the least rank or behind it
  open_late : (least : ℕ) → IsLeast history.events counts 0 history.config.cpus least → (cpu number returned : ℕ) (given : Reply)
      → IsReturned history.events returned cpu number given → count_of cpu lines ≤ number → least ≤ returned
  open_late least is_least cpu number returned given is_returned is_open =
      let within = finished_of_machine cpu number (returned, given, is_returned) in
      let first = finished_below history is_history cpu (count_of cpu lines) number is_open (returned, given, is_returned) in
      let below = returns_in_order history is_history cpu (count_of cpu lines) number first.0 returned first.1 given is_open first.2 is_returned in
      let is_next : IsReturned history.events first.0 cpu (get_or counts cpu 0) first.1 =
      subst (λ (n : ℕ). IsReturned history.events first.0 cpu n first.1) (sym (counted cpu within)) first.2 in
      let no_sooner = is_least.returned cpu first.0 first.1 within is_next (omega arith) in
      omega (arith, below, no_sooner)

  -- each call that returned before the least rank stands in the lines
  pub HasReturned-least : (least until : ℕ) → IsLeast history.events counts 0 history.config.cpus least → until ≤ least
      → HasReturned history counts until
  HasReturned-least least until is_least early = λ cpu number at given is_returned before. elim (cases_lt number (count_of cpu lines)) [
    | inl below ↦ subst (λ (n : ℕ). number < n) (sym (counted cpu (finished_of_machine cpu number (at, given, is_returned)))) below
    | inr is_open ↦
        let late = open_late least is_least cpu number at given is_returned is_open in
        absurd (omega (arith, late, early, before))
  ]

  -- at the return of an open call, of those the first, the lines are kept
  pub IsKept-open : (least : ℕ) → IsLeast history.events counts 0 history.config.cpus least → (cpu number : ℕ) (given : Reply)
      → IsReturned history.events least cpu number given → count_of cpu lines ≤ number → IsKept history least lines state
  IsKept-open least is_least cpu number given is_returned is_open = record {
    reached = reached;
    returned = open_late least is_least;
    made = λ other other_number called command is_called below. elim (cases_lt called least) [
      | inl before ↦ before
      | inr after ↦
          let there = reached.first other other_number below in
          let of_line : IsCalled history.events called (cpu_named there.1) (number_named there.1) command =
          subst (λ (c : ℕ). IsCalled history.events called c (number_named there.1) command) (sym there.3)
          (subst (λ (n : ℕ). IsCalled history.events called other n command) (sym there.4) is_called) in
          absurd (reached.in_time (Keep cpu number) (λ named. let early = reached.named cpu number named in omega (arith, early, is_open)) (
            there.0,
            there.1,
            there.2,
            record {
              returned = least;
              given = given;
              is_returned = is_returned;
              called = called;
              command = command;
              is_called = of_line;
              before = apart_places called other other_number command is_called after;
            },
          ))
    ];
  }
    where
      -- a return isn't a call
      apart_places : (called other other_number : ℕ) (command : Command) → IsCalled history.events called other other_number command
          → least ≤ called → least < called
      apart_places called other other_number command is_called after = elim (cases_lt least called) [
        | inl before ↦ before
        | inr below ↦
            let at : called ≡ least = omega (arith, after, below) in
            let both : Some (Called other other_number command) ≡ Some (Returned cpu number given) =
            sym is_called ∙ ap (λ (p : ℕ). slice_get history.events p) at ∙ is_returned in
            absurd (let bad : ⊥ = cc in bad)
      ]

  -- a call that was made before that can come next
  pub ReturnBehind-called : (least : ℕ) → IsLeast history.events counts 0 history.config.cpus least → (called cpu number : ℕ) (command : Command)
      → IsCalled history.events called cpu number command → called ≤ least → ReturnBehind history.events lines called
  ReturnBehind-called least is_least called cpu number command is_called early = λ other other_number returned given is_returned is_open.
      let late = open_late least is_least other other_number returned given is_returned is_open in
      elim (cases_lt called returned) [
        | inl before ↦ before
        | inr after ↦
            let at : called ≡ returned = omega (arith, after, late, early) in
            let both : Some (Called cpu number command) ≡ Some (Returned other other_number given) =
            sym is_called ∙ ap (λ (p : ℕ). slice_get history.events p) at ∙ is_returned in
            absurd (let bad : ⊥ = cc in bad)
      ]

  -- an open call returned before the choice was made
  pub too_late : (first_from from : ℕ) (first choice : Choice) → IsNextCall history counts first_from first → IsNextCall history counts from choice
      → (returned : ℕ) (given : Reply) → IsReturned history.events returned first.cpu first.number given → returned < choice.places.called
      → CallLeadsNowhere history lines choice.cpu choice.number
  too_late first_from from first choice is_first next returned given is_returned before line of_cpu numbered kind =
      let at : first.number ≡ count_of first.cpu lines = is_first.numbered ∙ counted first.cpu is_first.of_machine in
      let called = next.places.called in
      let returns : ReturnsBefore history.events first.cpu first.number choice.cpu choice.number = record {
        returned = returned;
        given = given;
        is_returned = is_returned;
        called = choice.places.called;
        command = called.0;
        is_called = called.1;
        before = before;
      } in
      nowhere_past history is_history lines state reached line first.cpu first.number (returned, given, is_returned)
      (λ below. omega (arith, below, at))
      (subst (λ (n : ℕ). ReturnsBefore history.events first.cpu first.number (cpu_named line) n) (sym numbered)
      (subst (λ (c : ℕ). ReturnsBefore history.events first.cpu first.number c choice.number) (sym of_cpu) returns))
