-- The first fault of an order that is no linearization: the line that fails after lines that pass, or a finished call
-- that no line names.
use Rattle.std.specs.Prelude.{◌≡◌, ℕ, ◌+◌, ◌<◌, List, length, take, slice_get, Some}
use Rattle.rmm_spec.specs.declared.command.Command.{Command}
use Rattle.rmm_spec.specs.declared.event.Event.{Event}
use Rattle.rmm_spec.specs.declared.line.Line.{Line}
use Rattle.rmm_spec.specs.declared.verdict.Reason.{Reason}
use Rattle.rmm_spec.specs.declared.verdict.Reason.TheVariants as reason
use Rattle.rmm_spec.specs.HistoryText.{History}
use Rattle.rmm_spec.specs.State.{State}
use Rattle.rmm_spec.specs.Step.{Step}
use Rattle.rmm_spec.specs.Run.{JournalEntry}
use Rattle.rmm_spec.specs.Linearization.{IsCalled, IsFinished, cpu_named, number_named, NamesCall, IsOfItsKind, IsNamed, IsTooLate, NamesCalls, KeepsRealTime, IsEntryOf, IsRunOf}

-- all that is asked of the lines but that each finished call has one
pub record Passes (history : History) (lines : List Line) (last : State) : Type 0 where
  pub names : NamesCalls history.events lines
  pub real_time : KeepsRealTime history.events lines
  pub entries : List JournalEntry
  pub run : IsRunOf history lines entries last

-- from old, the machine doesn't give the claimed reply
abbrev pub IsRefused : List Event → State → Line → Type 0
IsRefused events old line = (entry : JournalEntry) (new : State) → IsEntryOf events line entry → ¬ Step old entry.cpu entry.command entry.given new

-- the first reason that applies to a line, after lines that pass and lead to old
abbrev pub FailsBy : Reason → List Event → List Line → State → Line → Type 0
FailsBy reason.Unknown events before old line = ¬ NamesCall events line
FailsBy reason.Repeated events before old line = NamesCall events line × IsNamed before (cpu_named line) (number_named line)
FailsBy reason.Kind events before old line =
    NamesCall events line × (¬ IsNamed before (cpu_named line) (number_named line)) × (¬ IsOfItsKind events line)
FailsBy reason.Order events before old line =
    NamesCall events line × (¬ IsNamed before (cpu_named line) (number_named line)) × IsOfItsKind events line
    × IsTooLate events before line
FailsBy reason.Reply events before old line =
    NamesCall events line × (¬ IsNamed before (cpu_named line) (number_named line)) × IsOfItsKind events line
    × (¬ IsTooLate events before line) × IsRefused events old line
FailsBy (reason.Missing cpu number) events before old line = ⊥

-- the finished call without a line that was made first
pub record IsFirstMissing (events : List Event) (lines : List Line) (cpu number : ℕ) : Type 0 where
  pub finished : IsFinished events cpu number
  pub unnamed : ¬ IsNamed lines cpu number
  pub called : ℕ
  pub command : Command
  pub is_called : IsCalled events called cpu number command
  pub first : (place other_cpu other : ℕ) (made : Command) → place < called → IsCalled events place other_cpu other made
      → IsFinished events other_cpu other → IsNamed lines other_cpu other

-- the line at the step fails, and all before it pass; a missing call is told one step past the last line
pub record FailsAt (history : History) (lines : List Line) (step : ℕ) (why : Reason) : Type 0 where
  pub index : ℕ
  pub counted : step ≡ index + 1
  pub line : Line
  pub is_line : slice_get lines index ≡ Some line
  pub old : State
  pub before : Passes history (take index lines) old
  pub fails : FailsBy why history.events (take index lines) old line

pub record IsMissing (history : History) (lines : List Line) (step cpu number : ℕ) : Type 0 where
  pub counted : step ≡ length lines + 1
  pub last : State
  pub all : Passes history lines last
  pub missing : IsFirstMissing history.events lines cpu number

abbrev pub FirstFault : Reason → History → List Line → ℕ → Type 0
FirstFault (reason.Missing cpu number) history lines step = IsMissing history lines step cpu number
FirstFault reason.Unknown history lines step = FailsAt history lines step reason.Unknown
FirstFault reason.Repeated history lines step = FailsAt history lines step reason.Repeated
FirstFault reason.Kind history lines step = FailsAt history lines step reason.Kind
FirstFault reason.Order history lines step = FailsAt history lines step reason.Order
FirstFault reason.Reply history lines step = FailsAt history lines step reason.Reply
