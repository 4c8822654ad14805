-- A line after lines that pass either passes too or fails by a reason.
use Rattle.verdict_laws.proofs.Common.{◌≡◌, ℕ, ◌+◌, ◌⊎◌, inl, inr, List, [], ◌∷◌, ◌++◌, length, is_some, refl, arith, cases_lt, cases_Bool, Command, Event, Line, Keep, Unfinished, Reply, History, IsHistory, State, Step, JournalEntry, IsFinished, ReturnsBefore, cpu_named, number_named, NamesCall, IsOfItsKind, IsNamed, HasOnePlaces-from_history}
use Rattle.std.proofs.lemmas.Bool.{cases_eq}
use Rattle.rmm_spec.specs.declared.verdict.Reason.{Reason}
use Rattle.rmm_spec.specs.declared.verdict.Reason.TheVariants as reason
use Rattle.rmm_spec.specs.HistoryText.{subhistory_of}
use Rattle.rmm_spec.specs.Script.{replay}
use Rattle.rmm_spec.specs.Linearization.{IsKnown, IsTooLate, IsReplyOf}
use Rattle.rmm_spec.specs.FirstFault.{Passes, FailsBy}
use Rattle.spec_lemmas.proofs.Places.{IsKnown-below, below-IsKnown, IsFinished-below, below-IsFinished}
use Rattle.rmm_laws.proofs.Replays.{replayed-run, no_replay-no_run}
use Rattle.checker.proofs.Faults.{IsRefused-from_step}
use Rattle.checker.proofs.Progress.{Passes-push}
use Rattle.verdict_laws.proofs.Decisions.{Decided, decided_as, decided_not, decided_both, decided_one}

-- one of the lines names the call
pub decided_named : (lines : List Line) (cpu number : ℕ) → Decided (IsNamed lines cpu number)
decided_named lines cpu number =
    decided_as (λ found. (found.0, found.1, found.2, found.3.0, found.3.1)) (λ found. (found.0, found.1, found.2, (found.3, found.4)))
    (decided_one (λ (line : Line). (cpu_named line ≡ cpu) × (number_named line ≡ number))
    (λ line. decided_both (cases_eq (cpu_named line) cpu) (cases_eq (number_named line) number)) lines)

-- the machine gives the reply
decided_step : (old : State) (cpu : ℕ) (command : Command) (given : Reply) → Decided ((new : State) × Step old cpu command given new)
decided_step old cpu command given =
    let entry : JournalEntry = record { cpu = cpu; command = command; given = given } in
    elim (cases_Bool (is_some (replay old (entry ∷ [])))) [
      | inl some ↦ let run = replayed-run old (entry ∷ []) some in inl (run.1.0, run.1.1)
      | inr none ↦ inr (λ step. no_replay-no_run old (entry ∷ []) none step.0 (step.0, step.1, refl))
    ]

-- a line of its kind claims a reply
claimed_reply : (events : List Event) (line : Line) → IsOfItsKind events line → (given : Reply) × IsReplyOf events line given
claimed_reply events (Keep cpu number) finished = (finished.1, (finished.0, finished.2))
claimed_reply events (Unfinished cpu number claimed) unfinished = (claimed, refl)

module _ (history : History) (is_history : IsHistory history) where
  -- by how many events its CPU has, the call is there
  decided_known : (cpu number : ℕ) → Decided (IsKnown history.events cpu number)
  decided_known cpu number = elim (cases_lt (number + number) (length (subhistory_of cpu history.events))) [
    | inl within ↦ inl (IsKnown-below cpu number history.events (is_history.records cpu) within)
    | inr past ↦ inr (λ known. omega (arith, past, below-IsKnown cpu number history.events (is_history.records cpu) known))
  ]

  -- and has returned
  pub decided_finished : (cpu number : ℕ) → Decided (IsFinished history.events cpu number)
  decided_finished cpu number = elim (cases_lt (number + number + 1) (length (subhistory_of cpu history.events))) [
    | inl within ↦ inl (IsFinished-below cpu number history.events (is_history.records cpu) within)
    | inr past ↦ inr (λ finished. omega (arith, past, below-IsFinished cpu number history.events (is_history.records cpu) finished))
  ]

  -- whether the line is of its call's kind
  decided_kind : (line : Line) → Decided (IsOfItsKind history.events line)
  decided_kind (Keep cpu number) = decided_finished cpu number
  decided_kind (Unfinished cpu number claimed) = decided_not (decided_finished cpu number)

  -- of a call that returned and a call that was made, by their places
  ReturnsBefore-places : (cpu number later_cpu later : ℕ) → IsFinished history.events cpu number → IsKnown history.events later_cpu later
      → Decided (ReturnsBefore history.events cpu number later_cpu later)
  ReturnsBefore-places cpu number later_cpu later finished known =
      let one = HasOnePlaces-from_history history is_history in
      elim (cases_lt finished.0 known.0) [
        | inl before ↦ inl (record {
          returned = finished.0;
          given = finished.1;
          is_returned = finished.2;
          called = known.0;
          command = known.1;
          is_called = known.2;
          before = before;
        })
        | inr after ↦ inr (λ b. omega (
          arith,
          after,
          b.before,
          one.one_return b.returned finished.0 cpu number b.given finished.1 b.is_returned finished.2,
          one.one_call b.called known.0 later_cpu later b.command known.1 b.is_called known.2,
        ))
      ]

  -- whether the one call returned before the other was made
  decided_before : (cpu number later_cpu later : ℕ) → Decided (ReturnsBefore history.events cpu number later_cpu later)
  decided_before cpu number later_cpu later = elim (decided_finished cpu number) [
    | inl finished ↦ elim (decided_known later_cpu later) [
      | inl known ↦ ReturnsBefore-places cpu number later_cpu later finished known
      | inr unknown ↦ inr (λ b. unknown (b.called, b.command, b.is_called))
    ]
    | inr unfinished ↦ inr (λ b. unfinished (b.returned, b.given, b.is_returned))
  ]

  -- whether the line's call returned before that of one of the lines was made
  decided_late : (lines : List Line) (later : Line) → Decided (IsTooLate history.events lines later)
  decided_late lines later =
      decided_one (λ (line : Line). ReturnsBefore history.events (cpu_named later) (number_named later) (cpu_named line) (number_named line))
      (λ line. decided_before (cpu_named later) (number_named later) (cpu_named line) (number_named line)) lines

  -- the line passes, or fails
  abbrev pub IsJudged : List Line → State → Line → Type 0
  IsJudged before old line =
      ((new : State) × Passes history (before ++ line ∷ []) new) ⊎ ((why : Reason) × FailsBy why history.events before old line)

  -- a line of which nothing but the machine's reply is left to ask
  judged_reply : (before : List Line) (old : State) (line : Line) → Passes history before old → NamesCall history.events line
      → ¬ IsNamed before (cpu_named line) (number_named line) → IsOfItsKind history.events line → ¬ IsTooLate history.events before line
      → IsJudged before old line
  judged_reply before old line passes known unnamed kind in_time =
      let claimed = claimed_reply history.events line kind in
      elim (decided_step old (cpu_named line) known.1 claimed.0) [
        | inl step ↦ inl (
          step.0,
          Passes-push history before old line known.0 step.0 passes (record {
            command = known.1;
            is_called = known.2;
            unnamed = unnamed;
            kind = kind;
            in_time = in_time;
            given = claimed.0;
            is_given = claimed.1;
            step = step.1;
          }),
        )
        | inr refuses ↦ inr (
          reason.Reply,
          (
            known,
            unnamed,
            kind,
            in_time,
            IsRefused-from_step history.events (HasOnePlaces-from_history history is_history) old line known.0 known.1 claimed.0 known.2 claimed.1
                (λ new step. refuses (new, step)),
          ),
        )
      ]

  -- each line passes or fails after lines that pass
  pub judged_line : (before : List Line) (old : State) (line : Line) → Passes history before old → IsJudged before old line
  judged_line before old line passes = elim (decided_known (cpu_named line) (number_named line)) [
    | inr unknown ↦ inr (reason.Unknown, unknown)
    | inl known ↦ elim (decided_named before (cpu_named line) (number_named line)) [
      | inl named ↦ inr (reason.Repeated, (known, named))
      | inr unnamed ↦ elim (decided_kind line) [
        | inr wrong ↦ inr (reason.Kind, (known, unnamed, wrong))
        | inl kind ↦ elim (decided_late before line) [
          | inl late ↦ inr (reason.Order, (known, unnamed, kind, late))
          | inr in_time ↦ judged_reply before old line passes known unnamed kind in_time
        ]
      ]
    ]
  ]
