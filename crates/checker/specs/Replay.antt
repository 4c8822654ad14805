-- What a replay holds, seen from the definitions.
use Rattle.std.specs.Prelude.{◌≡◌, ℕ, true, false, max, IsOk, IsTrue, List, [], ◌∷◌, ◌++◌, take, slice_get, slice_set, slice_index_or, Option, Some, MatchOption}
use Rattle.rmm_spec.specs.declared.command.Command.{Command}
use Rattle.rmm_spec.specs.declared.line.Line.{Line}
use Rattle.rmm_spec.specs.declared.reply.Reply.{Reply}
use Rattle.rmm_spec.specs.declared.verdict.Reason.{Reason}
use Rattle.rmm_spec.specs.Call.{call_of}
use Rattle.rmm_spec.specs.HistoryText.{History}
use Rattle.rmm_spec.specs.State.{State}
use Rattle.rmm_spec.specs.Step.{Step, outcome}
use Rattle.rmm_spec.specs.Linearization.{IsCalled, IsOfItsKind, IsReplyOf, IsTooLate, cpu_named, number_named}
use Rattle.rmm_spec.specs.FirstFault.{FailsBy}
use Rattle.spec_machine.specs.Memory.{makes_table}
use Rattle.spec_machine.specs.View.{state_of}
use Rattle.checker.specs.Progress.{Progress}
use Rattle.checker.specs.declared.replay.Replay.{Replay}

-- the lines so far pass, and the replay holds what it should of them
abbrev pub IsReplayOf : Replay → History → List Line → Type 0
IsReplayOf replay history lines = Progress history lines replay.named.items replay.latest (state_of replay.machine)

-- the call that was made there is named and committed
pub record Commits (old new : Replay) (cpu called : ℕ) (command : Command) (given : Reply) : Type 0 where
  pub step : Step (state_of old.machine) cpu command given (state_of new.machine)
  pub named : new.named.items ≡ slice_set old.named.items called true
  pub latest : new.latest ≡ max old.latest called

-- the CPU's command makes a table, and the machine accepts it and gives the reply: what alone takes memory
pub record NeedsMemory (replay : Replay) (cpu : ℕ) (command : Command) (given : Reply) : Type 0 where
  pub makes : IsTrue (makes_table command.function)
  pub accepted : IsOk (outcome (state_of replay.machine) cpu (call_of command))
  pub is_given : (next : State) × Step (state_of replay.machine) cpu command given next

-- after lines that pass, the line passes too, or fails by the reason
abbrev pub JudgesLine : Option Reason → Replay → Replay → History → Line → Type 0
JudgesLine why old new history line = (before : List Line) → IsReplayOf old history before
    → MatchOption why (IsReplayOf new history (before ++ line ∷ [])) (λ reason. FailsBy reason history.events before (state_of old.machine) line)

-- the line names the call that was made there, which no line so far names, is of the call's kind and in time, and claims the reply
pub record IsDue (replay : Replay) (history : History) (line : Line) (cpu called : ℕ) (given : Reply) : Type 0 where
  pub of_cpu : cpu_named line ≡ cpu
  pub is_called : (command : Command) × IsCalled history.events called (cpu_named line) (number_named line) command
  pub unset : slice_index_or replay.named.items called false ≡ false
  pub kind : IsOfItsKind history.events line
  pub in_time : (before : List Line) → IsReplayOf replay history before → ¬ IsTooLate history.events before line
  pub is_given : IsReplyOf history.events line given

-- the line is due, and to take the reply that it claims needs memory
pub record IsRefusedMemory (replay : Replay) (history : History) (line : Line) : Type 0 where
  pub place : ℕ
  pub command : Command
  pub given : Reply
  pub is_called : IsCalled history.events place (cpu_named line) (number_named line) command
  pub due : IsDue replay history line (cpu_named line) place given
  pub needs : NeedsMemory replay (cpu_named line) command given

-- after lines that pass, a line is refused memory
pub record RefusesMemory (history : History) (lines : List Line) : Type 0 where
  pub place : ℕ
  pub line : Line
  pub is_line : slice_get lines place ≡ Some line
  pub replay : Replay
  pub before : IsReplayOf replay history (take place lines)
  pub refused : IsRefusedMemory replay history line
