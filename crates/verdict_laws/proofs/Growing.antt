-- A kept order grows by open calls, and stays kept.
use Rattle.verdict_laws.proofs.Common.{◌≡◌, ℕ, ◌<◌, eqb, List, [], ◌∷◌, ◌++◌, inl, inr, sym, ◌∙◌, ap, subst, arith, append_assoc, cases_Bool, cases_lt, Command, Line, History, IsHistory, State, opening, Step, JournalEntry, IsRun, IsCalled, AreEntriesOf, IsEntryOf, cpu_named, number_named, count_of, HasOnePlaces-from_history}
use Rattle.std.proofs.lemmas.Bool.{eqb-true}
use Rattle.std.proofs.lemmas.List.{append-nil}
use Rattle.verdict_laws.specs.Order.{Grows}
use Rattle.verdict_laws.proofs.Counts.{count_of-nil, count_of-le, count_of-same, count_of-other}
use Rattle.verdict_laws.proofs.Growth.{Reaches-nil, Reaches-push}
use Rattle.verdict_laws.specs.Forward.{IsKept, IsOpen, AreOpen, Gives}
use Rattle.verdict_laws.proofs.Counted.{AreOpen-push}

-- no line is kept before the first event
pub IsKept-nil : (history : History) → IsKept history 0 [] (opening history.config)
IsKept-nil history = record {
  reached = Reaches-nil history;
  returned = λ cpu number returned given is above. omega arith;
  made = λ cpu number called command is below. let none = count_of-nil cpu in absurd (omega (arith, none, below));
}

module _ (history : History) (is_history : IsHistory history) (place : ℕ) where
  -- by one open call that is given
  IsKept-push : (lines : List Line) (old : State) (line : Line) (entry : JournalEntry) (new : State) → IsKept history place lines old
      → IsOpen history.events place lines line → IsEntryOf history.events line entry → Step old entry.cpu entry.command entry.given new
      → IsKept history place (lines ++ line ∷ []) new
  IsKept-push lines old line entry new kept is_open is_entry step =
      let grows : Grows history lines old line new = record {
        next = is_open.next;
        called = is_open.called;
        command = is_open.command;
        is_called = is_open.is_called;
        soon = λ cpu number returned given is above.
            let late = kept.returned cpu number returned given is above in
            let early = is_open.before in
            omega (arith, late, early);
        entry = entry;
        is_entry = is_entry;
        step = step;
      } in
      record {
        reached = Reaches-push history is_history lines old kept.reached line new grows;
        returned = λ cpu number returned given is above.
            let more = count_of-le cpu lines line in
            kept.returned cpu number returned given is (omega (arith, more, above));
        made = made;
      }
    where
      made : (cpu number called : ℕ) (command : Command) → IsCalled history.events called cpu number command
          → number < count_of cpu (lines ++ line ∷ []) → called < place
      made cpu number called command is below = elim (cases_lt number (count_of cpu lines)) [
        | inl before ↦ kept.made cpu number called command is before
        | inr at ↦ elim (cases_Bool (eqb (cpu_named line) cpu)) [
          | inl is_same ↦
              let of_cpu = eqb-true (cpu_named line) cpu is_same in
              let more = count_of-same cpu lines line of_cpu in
              let counted : number_named line ≡ count_of cpu lines = is_open.next.numbered ∙ ap (λ (c : ℕ). count_of c lines) of_cpu in
              let numbered : number_named line ≡ number = omega (arith, more, counted, at, below) in
              let here : IsCalled history.events is_open.called cpu number is_open.command =
              subst (λ (n : ℕ). IsCalled history.events is_open.called cpu n is_open.command) numbered
              (subst (λ (c : ℕ). IsCalled history.events is_open.called c (number_named line) is_open.command) of_cpu is_open.is_called) in
              let one = HasOnePlaces-from_history history is_history in
              let same = one.one_call called is_open.called cpu number command is_open.command is here in
              let early = is_open.before in
              omega (arith, same, early)
          | inr is_other ↦
              let same = count_of-other cpu lines line is_other in
              absurd (omega (arith, same, at, below))
        ]
      ]

  grown : (xs : List Line) (entries : List JournalEntry) (lines : List Line) (old new : State) → IsKept history place lines old
      → AreOpen history.events place lines xs → AreEntriesOf history.events xs entries → IsRun old entries new
      → IsKept history place (lines ++ xs) new
  grown [] [] lines old new kept are_open claimed run =
      subst (λ (s : State). IsKept history place (lines ++ []) s) (sym run)
      (subst (λ (ls : List Line). IsKept history place ls old) (sym (append-nil lines)) kept)
  grown [] (e ∷ entries) lines old new kept are_open claimed run = absurd claimed
  grown (x ∷ xs) [] lines old new kept are_open claimed run = absurd claimed
  grown (x ∷ xs) (e ∷ entries) lines old new kept are_open claimed run =
      let first = IsKept-push lines old x e run.0 kept are_open.0 claimed.0 run.1 in
      subst (λ (ls : List Line). IsKept history place ls new) (append_assoc lines (x ∷ []) xs)
      (grown xs entries (lines ++ x ∷ []) run.0 new first (AreOpen-push history.events place lines x xs are_open.1 are_open.2) claimed.1 run.2)

  -- by open calls that are given one after the other
  pub IsKept-append : (lines xs : List Line) (old new : State) → IsKept history place lines old → AreOpen history.events place lines xs
      → Gives history.events old xs new → IsKept history place (lines ++ xs) new
  IsKept-append lines xs old new kept are_open given = grown xs given.entries lines old new kept are_open given.claimed given.run
