-- From what the checker keeps to the verdict: the first line that fails, the first missing call, or acceptance.
use Rattle.std.proofs.Common.{◌≡◌, ℕ, ◌+◌, ◌≤◌, Bool, List, [], ◌∷◌, ◌++◌, length, take, Some, refl, sym, subst, arith}
use Rattle.std.specs.List.{slice_get}
use Rattle.std.proofs.lemmas.Option.{slice_get_within}
use Rattle.rmm_spec.specs.declared.command.Command.{Command}
use Rattle.rmm_spec.specs.declared.event.Event.{Event}
use Rattle.rmm_spec.specs.declared.line.Line.{Line}
use Rattle.rmm_spec.specs.declared.reply.Reply.{Reply}
use Rattle.rmm_spec.specs.declared.verdict.Reason.{Reason}
use Rattle.rmm_spec.specs.declared.verdict.Reason.TheVariants as reason
use Rattle.rmm_spec.specs.HistoryText.{History, IsHistory}
use Rattle.rmm_spec.specs.State.{State}
use Rattle.rmm_spec.specs.Step.{Step}
use Rattle.rmm_spec.specs.Linearization.{IsCalled, IsReturned, IsFinished, cpu_named, number_named, IsTooLate, IsReplyOf, IsLinearization}
use Rattle.rmm_spec.specs.FirstFault.{IsRefused, FailsBy, IsFirstMissing, FirstFault, Passes}
use Rattle.std.proofs.lemmas.List.{take_all}
use Rattle.rmm_spec.specs.Judgement.{Accepts}
use Rattle.rmm_laws.proofs.Isolation.{isolated_throughout}
use Rattle.lemmas.proofs.Elements.{take-next_at}
use Rattle.spec_lemmas.proofs.Calls.{HasOnePlaces, same_command, same_reply}
use Rattle.checker.specs.Progress.{Progress, AreNamedBelow}

-- the call returned at that place or above it
pub not-IsTooLate-from_latest : (history : History) → HasOnePlaces history.events
    → (lines : List Line) (named : List Bool) (latest : ℕ) (old : State) (line : Line) (returned : ℕ) (given : Reply)
    → Progress history lines named latest old → IsReturned history.events returned (cpu_named line) (number_named line) given
    → latest ≤ returned → ¬ IsTooLate history.events lines line
not-IsTooLate-from_latest history one lines named latest old line returned given progress is_returned above late =
    let before = late.3 in
    let same = one.one_return returned before.returned (cpu_named line) (number_named line) given before.given is_returned before.is_returned in
    let called = progress.no_later late.0 before.called late.1 before.command late.2 before.is_called in
    omega (arith, same, called, above, before.before)

-- a pending call is before none
pub not-IsTooLate-pending : (events : List Event) (lines : List Line) (line : Line) → ¬ IsFinished events (cpu_named line) (number_named line)
    → ¬ IsTooLate events lines line
not-IsTooLate-pending events lines line pending late = pending (late.3.returned, late.3.given, late.3.is_returned)

-- what the machine doesn't give to the one commit that a line claims, it doesn't give to the line
pub IsRefused-from_step : (events : List Event) → HasOnePlaces events → (old : State) (line : Line) (called : ℕ) (command : Command) (given : Reply)
    → IsCalled events called (cpu_named line) (number_named line) command → IsReplyOf events line given
    → ((new : State) → ¬ Step old (cpu_named line) command given new) → IsRefused events old line
IsRefused-from_step events one old line called command given is_called is_given refuses entry new is_entry step =
    let same_made =
    same_command events one is_entry.called called (cpu_named line) (number_named line) entry.command command is_entry.is_called is_called in
    let same_told = same_reply events one line entry.given given is_entry.given is_given in
    refuses new
    (subst (λ (c : ℕ). Step old c command given new) is_entry.cpu
    (subst (λ (m : Command). Step old entry.cpu m given new) same_made
    (subst (λ (g : Reply). Step old entry.cpu entry.command g new) same_told step)))

-- the first line that fails
pub FirstFault-from_FailsBy : (why : Reason) (history : History) (lines : List Line) (index : ℕ) (line : Line) (old : State)
    → slice_get lines index ≡ Some line → Passes history (take index lines) old → FailsBy why history.events (take index lines) old line
    → FirstFault why history lines (index + 1)
FirstFault-from_FailsBy reason.Unknown history lines index line old is_line before fails =
    record { index = index; counted = refl; line = line; is_line = is_line; old = old; before = before; fails = fails }
FirstFault-from_FailsBy reason.Repeated history lines index line old is_line before fails =
    record { index = index; counted = refl; line = line; is_line = is_line; old = old; before = before; fails = fails }
FirstFault-from_FailsBy reason.Kind history lines index line old is_line before fails =
    record { index = index; counted = refl; line = line; is_line = is_line; old = old; before = before; fails = fails }
FirstFault-from_FailsBy reason.Order history lines index line old is_line before fails =
    record { index = index; counted = refl; line = line; is_line = is_line; old = old; before = before; fails = fails }
FirstFault-from_FailsBy reason.Reply history lines index line old is_line before fails =
    record { index = index; counted = refl; line = line; is_line = is_line; old = old; before = before; fails = fails }
FirstFault-from_FailsBy (reason.Missing cpu number) history lines index line old is_line before fails = absurd fails

-- the finished call without a line that was made first
pub FirstFault-missing : (history : History) (lines : List Line) (last : State) (cpu number : ℕ) → Passes history lines last
    → IsFirstMissing history.events lines cpu number → FirstFault (reason.Missing cpu number) history lines (length lines + 1)
FirstFault-missing history lines last cpu number all missing = record { counted = refl; last = last; all = all; missing = missing }

-- all lines pass, and each finished call has one
pub IsLinearization-from_Passes : (history : History) → HasOnePlaces history.events → (lines : List Line) (last : State) → Passes history lines last
    → AreNamedBelow history.events lines (length history.events) → IsLinearization history lines
IsLinearization-from_Passes history one lines last passes named = record {
  order = record {
    names = passes.names;
    complete = λ cpu number finished.
        let known = one.is_known cpu number finished in
        named known.0 cpu number known.1 (slice_get_within history.events known.0 _ known.2) known.2 finished;
  };
  real_time = passes.real_time;
  entries = passes.entries;
  last = last;
  run = passes.run;
}

-- the front with the next line
pub Progress-next : (history : History) (lines : List Line) (index : ℕ) (line : Line) (named : List Bool) (latest : ℕ) (state : State)
    → slice_get lines index ≡ Some line → Progress history (take index lines ++ line ∷ []) named latest state
    → Progress history (take (index + 1) lines) named latest state
Progress-next history lines index line named latest state is_line progress =
    subst (λ (ls : List Line). Progress history ls named latest state) (sym (take-next_at lines index line is_line)) progress

-- the front that is the whole
pub Progress-whole : (history : History) (lines : List Line) (count : ℕ) (named : List Bool) (latest : ℕ) (state : State) → length lines ≤ count
    → Progress history (take count lines) named latest state → Progress history lines named latest state
Progress-whole history lines count named latest state whole progress =
    subst (λ (ls : List Line). Progress history ls named latest state) (take_all count lines whole) progress

-- the order is accepted
pub Accepts-from_Passes : (history : History) → IsHistory history → HasOnePlaces history.events
    → (lines : List Line) (last : State) → Passes history lines last
    → AreNamedBelow history.events lines (length history.events) → Accepts history lines (length lines)
Accepts-from_Passes history is_history one lines last passes named =
    let linearization = IsLinearization-from_Passes history one lines last passes named in
    record { linearization = linearization; counted = refl; isolated = isolated_throughout history linearization.entries }
