-- Of each history and order some verdict is right.
use Rattle.verdict_laws.proofs.Common.{◌≡◌, ℕ, zero, suc, ◌+◌, ◌≤◌, ◌⊎◌, inl, inr, List, [], ◌∷◌, ◌++◌, length, Option, Some, None, refl, sym, ◌∙◌, ap, subst, arith, slice_get, none-some, Command, Event, Called, Returned, Line, History, IsHistory, State, opening, IsCalled, IsFinished, IsNamed, HasOnePlaces-from_history}
use Rattle.std.proofs.Common.{take}
use Rattle.std.proofs.lemmas.List.{take_all}
use Rattle.rmm_spec.specs.declared.verdict.Reason.{Reason}
use Rattle.rmm_spec.specs.declared.verdict.Reason.TheVariants as reason
use Rattle.rmm_spec.specs.declared.verdict.Verdict.{Verdict}
use Rattle.rmm_spec.specs.declared.verdict.Verdict.TheVariants as verdict
use Rattle.rmm_spec.specs.FirstFault.{Passes, FirstFault}
use Rattle.rmm_spec.specs.Judgement.{JudgesOrder}
use Rattle.lemmas.proofs.Elements.{take-next_at, element_at}
use Rattle.checker.proofs.Faults.{FirstFault-from_FailsBy, FirstFault-missing, Accepts-from_Passes}
use Rattle.checker.proofs.Progress.{Passes-nil}
use Rattle.verdict_laws.proofs.Decisions.{Decided, decided_as, decided_not, decided_both, holds_surely, first_below}
use Rattle.verdict_laws.proofs.LineFaults.{decided_named, decided_finished, IsJudged, judged_line}

-- a call is made at the place that returned and that no line names
pub record IsMissingAt (events : List Event) (lines : List Line) (place : ℕ) : Type 0 where
  pub cpu : ℕ
  pub number : ℕ
  pub command : Command
  pub is_called : IsCalled events place cpu number command
  pub finished : IsFinished events cpu number
  pub unnamed : ¬ IsNamed lines cpu number

-- the same of the event there
called_missing : (events : List Event) (lines : List Line) (place cpu number : ℕ) (command : Command) → IsCalled events place cpu number command
    → Decided (IsFinished events cpu number) → Decided (IsNamed lines cpu number) → Decided (IsMissingAt events lines place)
called_missing events lines place cpu number command is_called finished named =
    decided_as
    (λ (both : IsFinished events cpu number × (¬ IsNamed lines cpu number)).
    record { cpu = cpu; number = number; command = command; is_called = is_called; finished = both.0; unnamed = both.1 })
    (λ (missing : IsMissingAt events lines place).
    let both : Some (Called missing.cpu missing.number missing.command) ≡ Some (Called cpu number command) = sym missing.is_called ∙ is_called in
    let same_cpu : missing.cpu ≡ cpu = cc in
    let same_number : missing.number ≡ number = cc in (
      subst (λ (c : ℕ). IsFinished events c number) same_cpu (subst (λ (n : ℕ). IsFinished events missing.cpu n) same_number missing.finished),
      subst (λ (c : ℕ). ¬ IsNamed lines c number) same_cpu (subst (λ (n : ℕ). ¬ IsNamed lines missing.cpu n) same_number missing.unnamed),
    ))
    (decided_both finished (decided_not named))

module _ (history : History) (is_history : IsHistory history) (lines : List Line) where
  -- whether the call at a place is missing, by the event there
  missing_by_event : (place : ℕ) (event : Option Event) → slice_get history.events place ≡ event → Decided (IsMissingAt history.events lines place)
  missing_by_event place None is = inr (λ missing. none-some (Called missing.cpu missing.number missing.command) (sym is ∙ missing.is_called))
  missing_by_event place (Some (Returned cpu number given)) is =
      inr (λ missing.
      let both : Some (Returned cpu number given) ≡ Some (Called missing.cpu missing.number missing.command) = sym is ∙ missing.is_called in cc)
  missing_by_event place (Some (Called cpu number command)) is =
      called_missing history.events lines place cpu number command is
      (decided_finished history is_history cpu number) (decided_named lines cpu number)

  -- the first lines pass, or an earlier one fails
  abbrev PassOrFault : ℕ → Type 0
  PassOrFault count = ((old : State) × Passes history (take count lines) old) ⊎ ((why : Reason) × (step : ℕ) × FirstFault why history lines step)

  -- one line more
  pass_or_fault-next : (count : ℕ) (old : State) (line : Line) → slice_get lines count ≡ Some line → Passes history (take count lines) old
      → IsJudged history is_history (take count lines) old line → PassOrFault (suc count)
  pass_or_fault-next count old line is_line passes (inl next) =
      let one_more : count + 1 ≡ suc count = omega arith in
      let front : take count lines ++ line ∷ [] ≡ take (suc count) lines =
      sym (take-next_at lines count line is_line) ∙ ap (λ (n : ℕ). take n lines) one_more in
      inl (next.0, subst (λ (ls : List Line). Passes history ls next.0) front next.1)
  pass_or_fault-next count old line is_line passes (inr fault) =
      inr (fault.0, count + 1, FirstFault-from_FailsBy fault.0 history lines count line old is_line passes fault.1)

  -- for each first part of the lines
  pass_or_fault : (count : ℕ) → count ≤ length lines → PassOrFault count
  pass_or_fault zero within = inl (opening history.config, Passes-nil history)
  pass_or_fault (suc count) within = elim (pass_or_fault count (omega (arith, within))) [
    | inl front ↦
        let line = element_at lines count (omega (arith, within)) in
        pass_or_fault-next count front.0 line.0 line.1 front.1 (judged_line history is_history (take count lines) front.0 line.0 front.1)
    | inr fault ↦ inr fault
  ]

  -- all lines pass: a finished call is missing, or the order is a linearization
  judged_whole : (last : State) → Passes history lines last → (v : Verdict) × JudgesOrder v history lines
  judged_whole last passes =
      elim (first_below (IsMissingAt history.events lines)
      (λ place. missing_by_event place (slice_get history.events place) refl) (length history.events)) [
        | inl first ↦
            let missing = first.holds in (
              verdict.No (length lines + 1) (reason.Missing missing.cpu missing.number),
              FirstFault-missing history lines last missing.cpu missing.number passes (record {
                finished = missing.finished;
                unnamed = missing.unnamed;
                called = first.at;
                command = missing.command;
                is_called = missing.is_called;
                first = λ place cpu number made before is_made finished.
                    holds_surely (decided_named lines cpu number)
                    (λ unnamed. first.none_before place before
                    (record { cpu = cpu; number = number; command = made; is_called = is_made; finished = finished; unnamed = unnamed }));
              }),
            )
        | inr none ↦ (
          verdict.Yes (length lines),
          Accepts-from_Passes history is_history (HasOnePlaces-from_history history is_history) lines last passes
              (λ place cpu number made within is_made finished.
              holds_surely (decided_named lines cpu number)
              (λ unnamed. none place within
              (record { cpu = cpu; number = number; command = made; is_called = is_made; finished = finished; unnamed = unnamed }))),
        )
      ]

  -- a line fails, a call is missing, or the order is accepted
  pub judged_order : (v : Verdict) × JudgesOrder v history lines
  judged_order = elim (pass_or_fault (length lines) (omega arith)) [
    | inl all ↦ judged_whole all.0 (subst (λ (ls : List Line). Passes history ls all.0) (take_all (length lines) lines (omega arith)) all.1)
    | inr fault ↦ (verdict.No fault.1 fault.0, fault.2)
  ]
