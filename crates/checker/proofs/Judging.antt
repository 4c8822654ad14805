-- What a line's look-ups say of it.
use Rattle.std.proofs.Common.{◌≡◌, ◌∙◌, ℕ, ◌<◌, ◌≤◌, Bool, true, false, List, [], ◌∷◌, ◌++◌, length, get_or, set, max, Option, Some, None, MatchBool, is_some, refl, sym, subst, arith}
use Rattle.std.proofs.lemmas.List.{get_or_read}
use Rattle.std.proofs.lemmas.Option.{slice_get_within}
use Rattle.std.specs.Option.{MatchOption}
use Rattle.std.specs.Vec.{with_item}
use Rattle.rmm_spec.specs.declared.command.Command.{Command}
use Rattle.rmm_spec.specs.declared.event.Event.TheVariants.{Called}
use Rattle.rmm_spec.specs.declared.line.Line.{Line}
use Rattle.rmm_spec.specs.declared.line.Line.TheVariants.{Keep, Unfinished}
use Rattle.rmm_spec.specs.declared.reply.Reply.{Reply}
use Rattle.rmm_spec.specs.declared.verdict.Reason.{Reason}
use Rattle.rmm_spec.specs.declared.verdict.Reason.TheVariants as reason
use Rattle.rmm_spec.specs.HistoryText.{History}
use Rattle.rmm_spec.specs.State.{State}
use Rattle.rmm_spec.specs.Step.{Step}
use Rattle.rmm_spec.specs.Linearization.{IsCalled, IsReturned, IsFinished, NamesCall, IsNamed, cpu_named, number_named, IsOfItsKind, IsTooLate, IsReplyOf}
use Rattle.rmm_spec.specs.FirstFault.{FailsBy}
use Rattle.checker.specs.Progress.{Progress}
use Rattle.checker.specs.Replay.{IsDue, IsReplayOf, JudgesLine, NeedsMemory, IsRefusedMemory}
use Rattle.checker.specs.declared.replay.Replay.{Replay}
use Rattle.spec_lemmas.proofs.Calls.{told_at_call, HasOnePlaces-from_history}
use Rattle.spec_machine.specs.View.{state_of}
use Rattle.checker.proofs.Progress.{Follows, Progress-push, Progress-returned, flag-returned}
use Rattle.checker.proofs.Faults.{IsRefused-from_step, not-IsTooLate-from_latest, not-IsTooLate-pending}

-- the place of a call has a flag
pub called_within : (history : History) (named : List Bool) (called cpu number : ℕ) (command : Command) → length named ≡ length history.events
    → IsCalled history.events called cpu number command → called < length named
called_within history named called cpu number command counted is_called =
    omega (arith, counted, slice_get_within history.events called (Called cpu number command) is_called)

-- a line whose call is found, unnamed, of its kind and in time, with the reply that it claims
pub record IsReady (history : History) (before : List Line) (named : List Bool)
    (line : Line) (called : ℕ) (command : Command) (given : Reply) : Type 0 where
  pub is_called : IsCalled history.events called (cpu_named line) (number_named line) command
  pub unset : get_or named called false ≡ false
  pub kind : IsOfItsKind history.events line
  pub in_time : ¬ IsTooLate history.events before line
  pub is_given : IsReplyOf history.events line given

-- the machine gives the reply: the line passes
pub Progress-line : (history : History) (before : List Line) (named : List Bool) (latest : ℕ) (old : State)
    → Progress history before named latest old → (line : Line) (called : ℕ) (command : Command) (given : Reply)
    → IsReady history before named line called command given → (flags : List Bool) (place : ℕ) (new : State)
    → Step old (cpu_named line) command given new → flags ≡ set named called true → place ≡ max latest called
    → Progress history (before ++ line ∷ []) flags place new
Progress-line history before named latest old progress line called command given ready flags place new step is_flags is_place =
    let follows : Follows history before old line called new = record {
      command = command;
      is_called = ready.is_called;
      unnamed = progress.unflagged called (cpu_named line) (number_named line) command ready.is_called ready.unset;
      kind = ready.kind;
      in_time = ready.in_time;
      given = given;
      is_given = ready.is_given;
      step = step;
    } in
    subst (λ (fs : List Bool). Progress history (before ++ line ∷ []) fs place new) (sym is_flags)
    (subst (λ (p : ℕ). Progress history (before ++ line ∷ []) (set named called true) p new) (sym is_place)
    (Progress-push history (HasOnePlaces-from_history history progress.is_history) before named latest old line called new progress follows))

-- the machine doesn't: the line fails by its reply
pub FailsBy-line : (history : History) (before : List Line) (named : List Bool) (latest : ℕ) (old : State)
    → Progress history before named latest old → (line : Line) (called : ℕ) (command : Command) (given : Reply)
    → IsReady history before named line called command given → ((next : State) → ¬ Step old (cpu_named line) command given next)
    → FailsBy reason.Reply history.events before old line
FailsBy-line history before named latest old progress line called command given ready refuses = (
  (called, command, ready.is_called),
  progress.unflagged called (cpu_named line) (number_named line) command ready.is_called ready.unset,
  ready.kind,
  ready.in_time,
  IsRefused-from_step history.events
      (HasOnePlaces-from_history history progress.is_history) old line called command given ready.is_called ready.is_given refuses,
)

-- the flag that was read isn't set
unset_flag : (named : List Bool) (called : ℕ) (flag : Bool) → flag ≡ get_or named called flag → flag ≡ false → get_or named called false ≡ false
unset_flag named called flag is_read unset = sym (subst (λ (b : Bool). b ≡ get_or named called b) unset is_read)

-- a line names a call, and whether a line so far names it is the flag that was read
pub NamesCall-read : (replay : Replay) (history : History) (line : Line) (called : ℕ) (flag : Bool)
    → (command : Command) × IsCalled history.events called (cpu_named line) (number_named line) command
    → flag ≡ get_or replay.named.items called flag → (before : List Line) → IsReplayOf replay history before
    → NamesCall history.events line
    × MatchBool flag (IsNamed before (cpu_named line) (number_named line)) (¬ IsNamed before (cpu_named line) (number_named line))
NamesCall-read replay history line called true made is_read before progress =
    let within = called_within history replay.named.items called _ _ made.0 progress.counted made.1 in
    let set = sym (get_or_read replay.named.items called true within is_read false) in
    ((called, made.0, made.1), progress.flagged called _ _ made.0 made.1 set)
NamesCall-read replay history line called false made is_read before progress =
    ((called, made.0, made.1), progress.unflagged called _ _ made.0 made.1 (sym is_read))

-- what returned before the latest call is too late
pub IsTooLate-from_latest : (history : History) (before : List Line) (named : List Bool) (latest : ℕ) (old : State) (line : Line)
    → Progress history before named latest old → (returned : ℕ) (given : Reply)
    → IsReturned history.events returned (cpu_named line) (number_named line) given → returned < latest → IsTooLate history.events before line
IsTooLate-from_latest history before named latest old line progress returned given is_returned late =
    let last = progress.reached (omega arith) in (
      last.0,
      last.1,
      last.3,
      record {
        returned = returned;
        given = given;
        is_returned = is_returned;
        called = latest;
        command = last.2;
        is_called = last.4;
        before = late;
      },
    )

-- a kept line of a finished call
pub IsDue-kept : (replay : Replay) (history : History) (cpu number called : ℕ) (flag : Bool) (returned : ℕ) (told : Reply)
    → (command : Command) × IsCalled history.events called cpu number command → flag ≡ get_or replay.named.items called flag → flag ≡ false
    → IsReturned history.events returned cpu number told → replay.latest ≤ returned
    → IsDue replay history (Keep cpu number) cpu called told
IsDue-kept replay history cpu number called flag returned told is_called is_read unset is_returned late = record {
  of_cpu = refl;
  is_called = is_called;
  unset = unset_flag replay.named.items called flag is_read unset;
  kind = (returned, told, is_returned);
  in_time = λ before progress. not-IsTooLate-from_latest history
      (HasOnePlaces-from_history history progress.is_history) before _ _ _ (Keep cpu number) returned told
      progress is_returned late;
  is_given = (returned, is_returned);
}

-- what is held with a flag at the return of a call
abbrev pub flagged : Replay → ℕ → Replay
flagged replay returned = record replay { named = with_item replay.named returned true }

-- the same line is due where the flag of its return is set before
pub IsDue-flagged : (replay : Replay) (history : History) (cpu number called : ℕ) (flag : Bool) (returned : ℕ) (told : Reply)
    → (command : Command) × IsCalled history.events called cpu number command → flag ≡ get_or replay.named.items called flag → flag ≡ false
    → IsReturned history.events returned cpu number told → replay.latest ≤ returned
    → IsDue (flagged replay returned) history (Keep cpu number) cpu called told
IsDue-flagged replay history cpu number called flag returned told is_called is_read unset is_returned late =
    IsDue-kept (flagged replay returned) history cpu number called flag returned told is_called
    (is_read
    ∙ sym (flag-returned history.events replay.named.items returned cpu number told is_returned called cpu number is_called.0 is_called.1 flag))
    unset is_returned late

-- what is judged with the flag is judged without it
pub JudgesLine-flagged : (why : Option Reason) (old new : Replay) (history : History) (line : Line) (returned cpu number : ℕ) (told : Reply)
    → IsReturned history.events returned cpu number told → JudgesLine why (flagged old returned) new history line
    → JudgesLine why old new history line
JudgesLine-flagged why old new history line returned cpu number told is_returned judged = λ before progress.
    judged before
    (Progress-returned history before old.named.items old.latest (state_of old.machine) progress returned cpu number told is_returned)

-- and memory that is refused with the flag is refused without it
pub IsRefusedMemory-flagged : (old : Replay) (history : History) (line : Line) (returned cpu number : ℕ) (told : Reply)
    → IsReturned history.events returned cpu number told → IsRefusedMemory (flagged old returned) history line → IsRefusedMemory old history line
IsRefusedMemory-flagged old history line returned cpu number told is_returned refused =
    let due = refused.due in
    let same = flag-returned history.events old.named.items returned cpu number told is_returned refused.place _ _ refused.command
    refused.is_called false in
    record {
      place = refused.place;
      command = refused.command;
      given = refused.given;
      is_called = refused.is_called;
      due = record {
        of_cpu = due.of_cpu;
        is_called = due.is_called;
        unset = sym same ∙ due.unset;
        kind = due.kind;
        in_time = λ before progress. due.in_time before
            (Progress-returned history before old.named.items old.latest (state_of old.machine) progress returned cpu number told is_returned);
        is_given = due.is_given;
      };
      needs = record { makes = refused.needs.makes; accepted = refused.needs.accepted; is_given = refused.needs.is_given };
    }

-- an unfinished line, of a pending call
pub IsDue-unfinished : (replay : Replay) (history : History) (cpu number called : ℕ) (flag : Bool) (claimed : Reply)
    → (command : Command) × IsCalled history.events called cpu number command → flag ≡ get_or replay.named.items called flag → flag ≡ false
    → ¬ IsFinished history.events cpu number
    → IsDue replay history (Unfinished cpu number claimed) cpu called claimed
IsDue-unfinished replay history cpu number called flag claimed is_called is_read unset pending = record {
  of_cpu = refl;
  is_called = is_called;
  unset = unset_flag replay.named.items called flag is_read unset;
  kind = pending;
  in_time = λ before progress. not-IsTooLate-pending history.events before (Unfinished cpu number claimed) pending;
  is_given = refl;
}

-- a line that is due waits for the machine alone
pub IsReady-from_due : (replay : Replay) (history : History) (line : Line) (cpu called : ℕ) (given : Reply)
    → IsDue replay history line cpu called given
    → (before : List Line) → IsReplayOf replay history before → (command : Command)
    → (c : ℕ) × (n : ℕ) × IsCalled history.events called c n command
    → IsReady history before replay.named.items line called command given
IsReady-from_due replay history line cpu called given due before progress command made = record {
  is_called = told_at_call history.events called (cpu_named line) (number_named line) command due.is_called made;
  unset = due.unset;
  kind = due.kind;
  in_time = due.in_time before progress;
  is_given = due.is_given;
}

-- a line that is due is refused memory where its call's command needs it
pub IsRefusedMemory-due : (replay : Replay) (history : History) (line : Line) (cpu called : ℕ) (given : Reply)
    → IsDue replay history line cpu called given
    → (command : Command) → (c : ℕ) × (n : ℕ) × IsCalled history.events called c n command
    → NeedsMemory replay cpu command given → IsRefusedMemory replay history line
IsRefusedMemory-due replay history line cpu called given due command made needs = record {
  place = called;
  command = command;
  given = given;
  is_called = told_at_call history.events called (cpu_named line) (number_named line) command due.is_called made;
  due = subst (λ (x : ℕ). IsDue replay history line x called given) (sym due.of_cpu) due;
  needs = subst (λ (x : ℕ). NeedsMemory replay x command given) (sym due.of_cpu) needs;
}

-- what is said of None
pub MatchOption-at_not_some : {X : Type 0} (o : Option X) (P : Type 0) (Q : X → Type 0) → is_some o ≡ false → MatchOption o P Q → P
MatchOption-at_not_some None P Q none holds = holds
MatchOption-at_not_some (Some x) P Q none holds = absurd (let bad : true ≡ false = none in cc)

-- what is said of the value of Some
pub MatchOption-at_is_some : {X : Type 0} (o : Option X) (P : Type 0) (Q : X → Type 0) → is_some o ≡ true → MatchOption o P Q → (x : X) × Q x
MatchOption-at_is_some None P Q some holds = absurd (let bad : false ≡ true = some in cc)
MatchOption-at_is_some (Some x) P Q some holds = (x, holds)
