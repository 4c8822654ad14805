-- What the checker keeps of the lines so far, and that it says as much of them as the definitions over all pairs.
use Rattle.std.proofs.Common.{◌≡◌, ℕ, ◌<◌, ◌≤◌, Bool, true, false, List, [], ◌∷◌, ◌++◌, inl, inr, length, get_or, set, max, Some, refl, sym, ◌∙◌, ap, subst, arith, get_or-set_same, get_or-set_other}
use Rattle.std.specs.List.{slice_get}
use Rattle.std.proofs.lemmas.Bool.{cases_eq, cases_lt, both_ways}
use Rattle.std.proofs.lemmas.Option.{none-some, slice_get_within}
use Rattle.std.proofs.lemmas.List.{length-set}
use Rattle.rmm_spec.specs.declared.command.Command.{Command}
use Rattle.rmm_spec.specs.declared.event.Event.{Event}
use Rattle.rmm_spec.specs.declared.event.Event.TheVariants.{Called, Returned}
use Rattle.rmm_spec.specs.declared.line.Line.{Line}
use Rattle.rmm_spec.specs.declared.reply.Reply.{Reply}
use Rattle.rmm_spec.specs.HistoryText.{History, IsHistory}
use Rattle.rmm_spec.specs.State.{State, opening}
use Rattle.rmm_spec.specs.Step.{Step}
use Rattle.rmm_spec.specs.Run.{JournalEntry}
use Rattle.rmm_spec.specs.Linearization.{IsCalled, IsReturned, ReturnsBefore, cpu_named, number_named, NamesCall, IsOfItsKind, IsNamed, IsTooLate, NamesCalls, KeepsRealTime, IsReplyOf, IsEntryOf}
use Rattle.rmm_spec.specs.FirstFault.{Passes}
use Rattle.checker.specs.Progress.{IsCallOf, Progress}
use Rattle.lemmas.proofs.Elements.{slice_get_push_cases, slice_get-append, slice_get-push}
use Rattle.spec_lemmas.proofs.Calls.{HasOnePlaces, IsNamed-push_cases}
use Rattle.rmm_laws.proofs.RunLaws.{run-snoc}
use Rattle.rmm_laws.proofs.EntryRuns.{AreEntriesOf-push}

-- a line that passes after the lines before it
pub record Follows (history : History) (before : List Line) (old : State) (line : Line) (called : ℕ) (new : State) : Type 0 where
  pub command : Command
  pub is_called : IsCalled history.events called (cpu_named line) (number_named line) command
  pub unnamed : ¬ IsNamed before (cpu_named line) (number_named line)
  pub kind : IsOfItsKind history.events line
  pub in_time : ¬ IsTooLate history.events before line
  pub given : Reply
  pub is_given : IsReplyOf history.events line given
  pub step : Step old (cpu_named line) command given new

-- ---- the lines so far

-- no line
pub Passes-nil : (history : History) → Passes history [] (opening history.config)
Passes-nil history = record {
  names = record {
    known = λ i line is. absurd (none-some line is);
    kinds = λ i line is. absurd (none-some line is);
    once = λ i j line other below is there. absurd (none-some line is);
  };
  real_time = λ i j line later below is there. absurd (none-some line is);
  entries = [];
  run = record { claimed = tt; run = refl };
}

pub Progress-nil : (history : History) (named : List Bool) → IsHistory history → length named ≡ length history.events
    → ((place : ℕ) → get_or named place false ≡ false) → Progress history [] named 0 (opening history.config)
Progress-nil history named is_history counted unset = record {
  is_history = is_history;
  passes = Passes-nil history;
  counted = counted;
  flagged = λ place cpu number command is set. absurd (both_ways _ (unset place) set);
  unflagged = λ place cpu number command is unset' is_named. none-some is_named.1 is_named.2;
  no_later = λ i place line command is. absurd (none-some line is);
  reached = λ some. absurd (omega (arith, some));
}

-- the names of one more line
pub NamesCalls-push : (events : List Event) (lines : List Line) (line : Line) → NamesCalls events lines → NamesCall events line
    → IsOfItsKind events line → ¬ IsNamed lines (cpu_named line) (number_named line) → NamesCalls events (lines ++ line ∷ [])
NamesCalls-push events lines line names known kind unnamed = record {
  known = λ i other is. elim (slice_get_push_cases lines line i other is) [
    | inl old ↦ names.known i other old
    | inr new ↦ subst (NamesCall events) (sym new.1) known
  ];
  kinds = λ i other is. elim (slice_get_push_cases lines line i other is) [
    | inl old ↦ names.kinds i other old
    | inr new ↦ subst (IsOfItsKind events) (sym new.1) kind
  ];
  once = λ i j one other below is there. elim (slice_get_push_cases lines line j other there) [
    | inl old ↦ elim (slice_get_push_cases lines line i one is) [
      | inl older ↦ names.once i j one other below older old
      | inr new ↦ absurd (omega (arith, new.0, below, slice_get_within lines j other old))
    ]
    | inr new ↦ elim (slice_get_push_cases lines line i one is) [
      | inl older ↦ λ same. unnamed (i, one, older, same.0 ∙ ap cpu_named new.1, same.1 ∙ ap number_named new.1)
      | inr newer ↦ absurd (omega (arith, new.0, newer.0, below))
    ]
  ];
}

-- real time with one more line
pub KeepsRealTime-push : (events : List Event) (lines : List Line) (line : Line) → KeepsRealTime events lines
    → ¬ IsTooLate events lines line → KeepsRealTime events (lines ++ line ∷ [])
KeepsRealTime-push events lines line keeps in_time = λ i j one later below is there. elim (slice_get_push_cases lines line j later there) [
  | inl old ↦ elim (slice_get_push_cases lines line i one is) [
    | inl older ↦ keeps i j one later below older old
    | inr new ↦ absurd (omega (arith, new.0, below, slice_get_within lines j later old))
  ]
  | inr new ↦ elim (slice_get_push_cases lines line i one is) [
    | inl older ↦ λ before. in_time (
      i,
      one,
      older,
      subst (λ (x : Line). ReturnsBefore events (cpu_named x) (number_named x) (cpu_named one) (number_named one)) new.1 before,
    )
    | inr newer ↦ absurd (omega (arith, new.0, newer.0, below))
  ]
]

-- one more line that passes
pub Passes-push : (history : History) (lines : List Line) (old : State) (line : Line) (called : ℕ) (new : State)
    → Passes history lines old → Follows history lines old line called new → Passes history (lines ++ line ∷ []) new
Passes-push history lines old line called new passes follows =
    let entry : JournalEntry = record { cpu = cpu_named line; command = follows.command; given = follows.given } in
    let is_entry : IsEntryOf history.events line entry =
    record { cpu = refl; called = called; is_called = follows.is_called; given = follows.is_given } in
    record {
      names = NamesCalls-push history.events lines line passes.names (called, follows.command, follows.is_called) follows.kind follows.unnamed;
      real_time = KeepsRealTime-push history.events lines line passes.real_time follows.in_time;
      entries = passes.entries ++ entry ∷ [];
      run = record {
        claimed = AreEntriesOf-push history.events lines passes.entries line entry passes.run.claimed is_entry;
        run = run-snoc passes.entries entry (opening history.config) old new passes.run.run follows.step;
      };
    }

-- what an event records, from two readings of its place
same_cpu : (events : List Event) (place cpu number other_cpu other : ℕ) (command made : Command) → IsCalled events place cpu number command
    → IsCalled events place other_cpu other made → (cpu ≡ other_cpu) × (number ≡ other)
same_cpu events place cpu number other_cpu other command made here there =
    let both : Some (Called cpu number command) ≡ Some (Called other_cpu other made) = sym here ∙ there in
    (cc, cc)

-- a flag at the place of a return is that of no call
pub flag-returned : (events : List Event) (named : List Bool) (returned other_cpu other : ℕ) (given : Reply)
    → IsReturned events returned other_cpu other given
    → (place cpu number : ℕ) (command : Command) → IsCalled events place cpu number command → (otherwise : Bool)
    → get_or (set named returned true) place otherwise ≡ get_or named place otherwise
flag-returned events named returned other_cpu other given there place cpu number command is otherwise =
    get_or-set_other named returned place true otherwise (λ same.
    let both : Some (Called cpu number command) ≡ Some (Returned other_cpu other given) =
    sym is ∙ (ap (λ (p : ℕ). slice_get events p) same ∙ there) in
    cc)

-- so it says nothing of the lines
pub Progress-returned : (history : History) (lines : List Line) (named : List Bool) (latest : ℕ) (state : State)
    → Progress history lines named latest state → (returned cpu number : ℕ) (given : Reply) → IsReturned history.events returned cpu number given
    → Progress history lines (set named returned true) latest state
Progress-returned history lines named latest state progress returned cpu number given there =
    let same = flag-returned history.events named returned cpu number given there in
    record {
      is_history = progress.is_history;
      passes = progress.passes;
      counted = length-set named returned true ∙ progress.counted;
      flagged = λ place c n command is is_set. progress.flagged place c n command is (sym (same place c n command is false) ∙ is_set);
      unflagged = λ place c n command is unset. progress.unflagged place c n command is (sym (same place c n command is false) ∙ unset);
      no_later = progress.no_later;
      reached = progress.reached;
    }

module _ (history : History) (one : HasOnePlaces history.events) (lines : List Line)
    (named : List Bool) (latest : ℕ) (old : State) (line : Line) (called : ℕ) (new : State) where
  -- a flag that was set already names an old line, and the new one the last line
  flagged_push : Progress history lines named latest old → Follows history lines old line called new → (place cpu number : ℕ) (command : Command)
      → IsCalled history.events place cpu number command → get_or (set named called true) place false ≡ true
      → IsNamed (lines ++ line ∷ []) cpu number
  flagged_push progress follows place cpu number command is set_there = elim (cases_eq place called) [
    | inl same ↦
        let same_call = same_cpu history.events called (cpu_named line) (number_named line) cpu number follows.command command follows.is_called
        (subst (λ (p : ℕ). IsCalled history.events p cpu number command) same is) in
        (length lines, line, slice_get-push lines line, same_call.0, same_call.1)
    | inr other ↦
        let old_flag : get_or named place false ≡ true = sym (get_or-set_other named called place true false other) ∙ set_there in
        let is_named = progress.flagged place cpu number command is old_flag in
        (is_named.0, is_named.1, slice_get-append lines (line ∷ []) is_named.0 is_named.1 is_named.2, is_named.3, is_named.4)
  ]

  unflagged_push : Progress history lines named latest old → Follows history lines old line called new → (place cpu number : ℕ) (command : Command)
      → IsCalled history.events place cpu number command → get_or (set named called true) place false ≡ false
      → ¬ IsNamed (lines ++ line ∷ []) cpu number
  unflagged_push progress follows place cpu number command is unset is_named = elim (cases_eq place called) [
    | inl same ↦
        let in_range : called < length named = omega (
          arith,
          progress.counted,
          slice_get_within history.events called (Called (cpu_named line) (number_named line) follows.command) follows.is_called,
        ) in
        both_ways _ unset (ap (λ (p : ℕ). get_or (set named called true) p false) same ∙ get_or-set_same named called true false in_range)
    | inr other ↦ elim (IsNamed-push_cases lines line cpu number is_named) [
      | inl before ↦ progress.unflagged place cpu number command is (sym (get_or-set_other named called place true false other) ∙ unset) before
      | inr here ↦ other (one.one_call place called cpu number command follows.command is
          (subst (λ (n : ℕ). IsCalled history.events called cpu n follows.command) here.1
          (subst (λ (c : ℕ). IsCalled history.events called c (number_named line) follows.command) here.0 follows.is_called)))
    ]
  ]

  no_later_push : Progress history lines named latest old
      → Follows history lines old line called new → (i place : ℕ) (other : Line) (command : Command)
      → slice_get (lines ++ line ∷ []) i ≡ Some other → IsCalled history.events place (cpu_named other) (number_named other) command
      → place ≤ max latest called
  no_later_push progress follows i place other command is made = elim (slice_get_push_cases lines line i other is) [
    | inl before ↦ omega (arith, progress.no_later i place other command before made)
    | inr here ↦ omega (
      arith,
      one.one_call place called (cpu_named line) (number_named line) command follows.command
          (subst (λ (x : Line). IsCalled history.events place (cpu_named x) (number_named x) command) here.1 made) follows.is_called,
    )
  ]

  reached_push : Progress history lines named latest old → Follows history lines old line called new → 0 < max latest called
      → IsCallOf history.events (lines ++ line ∷ []) (max latest called)
  reached_push progress follows some = elim (cases_lt called latest) [
    | inl below ↦
        let is = progress.reached (omega (arith, below)) in
        let same : max latest called ≡ latest = omega (arith, below) in (
          is.0,
          is.1,
          is.2,
          slice_get-append lines (line ∷ []) is.0 is.1 is.3,
          subst (λ (p : ℕ). IsCalled history.events p (cpu_named is.1) (number_named is.1) is.2) (sym same) is.4,
        )
    | inr above ↦
        let same : max latest called ≡ called = omega (arith, above) in (
          length lines,
          line,
          follows.command,
          slice_get-push lines line,
          subst (λ (p : ℕ). IsCalled history.events p (cpu_named line) (number_named line) follows.command) (sym same) follows.is_called,
        )
  ]

  -- one more line that passes
  pub Progress-push : Progress history lines named latest old → Follows history lines old line called new
      → Progress history (lines ++ line ∷ []) (set named called true) (max latest called) new
  Progress-push progress follows = record {
    is_history = progress.is_history;
    passes = Passes-push history lines old line called new progress.passes follows;
    counted = length-set named called true ∙ progress.counted;
    flagged = flagged_push progress follows;
    unflagged = unflagged_push progress follows;
    no_later = no_later_push progress follows;
    reached = reached_push progress follows;
  }
