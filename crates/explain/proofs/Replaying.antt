-- Lines that pass are taken once more, and lead to one state.
use Rattle.explain.proofs.Common.{◌+◌, ◌<◌, ◌∷◌, ◌≡◌, ◌≤◌, Command, History, IsCalled, IsHistory, Line, List, Passes, Reply, Some, State, [], ap, arith, cpu_named, number_named, refl, slice_get, subst, suc, sym, take, zero, ℕ}
use Rattle.rmm_spec.specs.State.{opening}
use Rattle.rmm_spec.specs.Step.{Step}
use Rattle.rmm_spec.specs.Linearization.{AreEntriesOf, IsNamed, IsOfItsKind, IsReplyOf, IsTooLate, NamesCall}
use Rattle.spec_lemmas.proofs.Calls.{HasOnePlaces-from_history}
use Rattle.lemmas.proofs.Elements.{slice_get-front, slice_get-take, take-next_at}
use Rattle.checker.proofs.Faults.{IsRefused-from_step}
use Rattle.checker.proofs.Progress.{Passes-push}
use Rattle.rmm_laws.proofs.EntryRuns.{not-IsRefused, same_state as same_last}
use Rattle.explain.specs.Told.{IsPassing}

-- ---- one state

-- lines that pass lead to one state
pub same_state : (history : History) → IsHistory history → (lines : List Line) (last other : State)
    → Passes history lines last → Passes history lines other
    → last ≡ other
same_state history is_history lines last other passes also =
    same_last history.events (HasOnePlaces-from_history history is_history) lines passes.entries also.entries (opening history.config) last other
    passes.run.claimed passes.run.run also.run.claimed also.run.run

-- ---- one line more

-- a front of a front
pub take-front : {X : Type 0} (n count : ℕ) (xs : List X) → n ≤ count → take n (take count xs) ≡ take n xs
take-front zero count xs below = refl
take-front (suc n) zero xs below = absurd (let bad : ⊥ = omega (arith, below) in bad)
take-front (suc n) (suc count) [] below = refl
take-front (suc n) (suc count) (y ∷ xs) below = ap (λ zs. y ∷ zs) (take-front n count xs (omega (arith, below)))

-- a line of those that pass names a call
pub known_before : (history : History) (lines : List Line) (count : ℕ) (last : State) → Passes history (take count lines) last
    → (i : ℕ) (line : Line) → i < count → slice_get lines i ≡ Some line → NamesCall history.events line
known_before history lines count last passes i line below is_line = passes.names.known i line (slice_get-front count lines i line below is_line)

module _ (history : History) (is_history : IsHistory history) (lines : List Line) (i : ℕ) (line : Line) (is_line : slice_get lines i ≡ Some line)
    (passing : IsPassing history lines i) (old : State) (before : Passes history (take i lines) old) where
  here : slice_get (take passing.count lines) i ≡ Some line
  here = slice_get-front passing.count lines i line passing.below is_line

  -- it names a call of its kind
  pub line_known : NamesCall history.events line
  line_known = passing.passes.names.known i line here

  pub line_of_its_kind : IsOfItsKind history.events line
  line_of_its_kind = passing.passes.names.kinds i line here

  unnamed : ¬ IsNamed (take i lines) (cpu_named line) (number_named line)
  unnamed (j, other, is_other, same_cpu, same_number) =
      let at = slice_get-take i lines j other is_other in
      passing.passes.names.once j i other line at.0
      (slice_get-front passing.count lines j other (omega (arith, at.0, passing.below)) at.1) here (same_cpu, same_number)

  in_time : ¬ IsTooLate history.events (take i lines) line
  in_time (j, other, is_other, returns) =
      let at = slice_get-take i lines j other is_other in
      passing.passes.real_time j i other line at.0
      (slice_get-front passing.count lines j other (omega (arith, at.0, passing.below)) at.1) here returns

  -- the machine isn't without an answer to it
  pub not-refused : (called : ℕ) (command : Command) (given : Reply) → IsCalled history.events called (cpu_named line) (number_named line) command
      → IsReplyOf history.events line given → ((new : State) → ¬ Step old (cpu_named line) command given new) → ⊥
  not-refused called command given is_called is_given refuses =
      let one = HasOnePlaces-from_history history is_history in
      let front = take-front i passing.count lines (omega (arith, passing.below)) in
      not-IsRefused history.events one (take passing.count lines) passing.passes.entries (opening history.config) passing.last
      passing.passes.run.claimed passing.passes.run.run i line before.entries old here
      (subst (λ (ls : List Line). AreEntriesOf history.events ls before.entries) (sym front) before.run.claimed) before.run.run
      (IsRefused-from_step history.events one old line called command given is_called is_given refuses)

  -- and with it the lines pass
  pub Passes-taken : (called : ℕ) (command : Command) (given : Reply) (new : State)
      → IsCalled history.events called (cpu_named line) (number_named line) command
      → IsReplyOf history.events line given → Step old (cpu_named line) command given new → Passes history (take (i + 1) lines) new
  Passes-taken called command given new is_called is_given step =
      subst (λ (ls : List Line). Passes history ls new) (sym (take-next_at lines i line is_line))
      (Passes-push history (take i lines) old line called new before (record {
        command = command;
        is_called = is_called;
        unnamed = unnamed;
        kind = line_of_its_kind;
        in_time = in_time;
        given = given;
        is_given = is_given;
        step = step;
      }))
