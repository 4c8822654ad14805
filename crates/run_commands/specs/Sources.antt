-- How a scenario is played that a source gives of a file, and how the program ends after that.
use Rattle.std.specs.Prelude.{◌≡◌, ℕ, List, Result, Ok, Err}
use Rattle.std.specs.Borrow.{Bor}
use Rattle.rmm_spec.specs.declared.verdict.Verdict.{Verdict}
use Rattle.devices.specs.Sink.{Writing}
use Rattle.devices.specs.Source.{Reading}
use Rattle.world_runs.specs.Played as turns
use Rattle.monitor_runs.specs.ThreadRun as threads
use Rattle.run_commands.specs.declared.play_fault.PlayFault.{PlayFault}
use Rattle.run_commands.specs.Plays.{IsPlay}
use Rattle.run_commands.specs.declared.fault.ProgramFault.{ProgramFault}
use Rattle.run_commands.specs.Faults.{play_fault}

-- in the world of turns
abbrev pub IsPlayInTurns : Reading → Writing → Result Verdict PlayFault → Type 0
IsPlayInTurns source sink answer = IsPlay turns.IsPrinted source sink answer

-- on threads
abbrev pub IsPlayOnThreads : Reading → Writing → Result Verdict PlayFault → Type 0
IsPlayOnThreads source sink answer = IsPlay threads.IsPrinted source sink answer

-- how the program ends where the file at this path was played with that answer
abbrev pub played : Bor (List ℕ) → Result Verdict PlayFault → Result Verdict ProgramFault
played path (Ok verdict) = Ok verdict
played path (Err failed) = Err (play_fault path failed)

-- The source of the file at this path was played, and the program ends as that says.
pub record EndsPlay (IsAnswer : Result Verdict PlayFault → Type 0) (path : Bor (List ℕ)) (ended : Result Verdict ProgramFault) : Type 0 where
  pub answer : Result Verdict PlayFault
  pub is_answer : IsAnswer answer
  pub is_end : ended ≡ played path answer
