-- What playing a scenario's bytes says of its source and its sink.
use Rattle.std.specs.Prelude.{◌≡◌, ◌≢◌, ◌⊎◌, ⊤, ℕ, ◌+◌, ◌<◌, List, ◌++◌, length, Result, Ok, Err, IfOk, IfErr}
use Rattle.std.specs.Io.KnownBytes.{Appends}
use Rattle.rmm_spec.specs.declared.verdict.Verdict.{Verdict}
use Rattle.rmm_spec.specs.Scenario.{Scenario}
use Rattle.devices.specs.Sink.{HoldsBeginning, Writing}
use Rattle.devices.specs.Source.{Reading}
use Rattle.devices.specs.declared.source.ReadError.{ReadError}
use Rattle.devices.specs.declared.source.ReadError.TheVariants as of_read
use Rattle.world_runs.specs.declared.fault.RunFault.{RunFault}
use Rattle.world_runs.specs.declared.fault.RunFault.TheVariants as of_run
use Rattle.scenario.specs.declared.fault.ScenarioFault.{ScenarioFault}
use Rattle.scenario.specs.declared.fault.ScenarioFault.TheVariants as of_scenario
use Rattle.scenario.specs.ScenarioText.{IsScenarioText, IsFirstFault}
use Rattle.monitor_runs.specs.ThreadRun.{MayDisagree}
use Rattle.run_commands.specs.declared.play_fault.PlayFault.{PlayFault}
use Rattle.run_commands.specs.declared.play_fault.PlayFault.TheVariants as fault

-- ---- faults of its parts

abbrev pub fault_of_read : ReadError → PlayFault
fault_of_read of_read.Device = fault.Read
fault_of_read of_read.NoMemory = fault.NoMemory

abbrev pub fault_of_scenario : ScenarioFault → PlayFault
fault_of_scenario of_scenario.NoMemory = fault.NoMemory
fault_of_scenario refused = fault.Scenario refused

abbrev pub fault_of_run : RunFault → PlayFault
fault_of_run of_run.NoMemory = fault.NoMemory
fault_of_run of_run.Disagrees = fault.Disagrees
fault_of_run of_run.Thread = fault.Thread

-- ---- what is printed, and what is refused

-- bytes that are those of the source state this scenario
pub record IsStated (IsBytes : List ℕ → Type 0) (scenario : Scenario) : Type 0 where
  pub bytes : List ℕ
  pub is_bytes : IsBytes bytes
  pub states : IsScenarioText bytes scenario

-- the source's bytes state a scenario of which this text is printed, with this verdict
pub record Plays (IsPrinted : Scenario → Verdict → List ℕ → Type 0) (IsBytes : List ℕ → Type 0) (verdict : Verdict) (text : List ℕ) : Type 0 where
  pub scenario : Scenario
  pub is_stated : IsStated IsBytes scenario
  pub is_printed : IsPrinted scenario verdict text

-- this is the first fault of bytes that are those of the source, and it isn't refused memory
pub record IsRefused (IsBytes : List ℕ → Type 0) (refused : ScenarioFault) : Type 0 where
  pub bytes : List ℕ
  pub is_bytes : IsBytes bytes
  pub first : IsFirstFault refused bytes
  pub told : refused ≢ of_scenario.NoMemory

-- A fault of the scenario is one of the bytes. No thread and no disagreement is told but of bytes that state a scenario, and a
-- disagreement only of one whose run may disagree. Of `Write` it is said with what was written.
abbrev pub IsCaused : (List ℕ → Type 0) → PlayFault → Type 0
IsCaused IsBytes (fault.Scenario refused) = IsRefused IsBytes refused
IsCaused IsBytes fault.Read = ⊤
IsCaused IsBytes fault.Write = ⊤
IsCaused IsBytes fault.NoMemory = ⊤
IsCaused IsBytes fault.Thread = (scenario : Scenario) × IsStated IsBytes scenario
IsCaused IsBytes fault.Disagrees = (scenario : Scenario) × IsStated IsBytes scenario × MayDisagree scenario

-- ---- devices

-- this holds where the source was read to its end: after each answer but that it can't be read, or that memory is refused
abbrev pub OnRead : {T : Type 0} → Result T PlayFault → Type 0 → Type 0
OnRead (Ok value) P = P
OnRead (Err fault.Read) P = ⊤
OnRead (Err fault.Write) P = P
OnRead (Err (fault.Scenario refused)) P = P
OnRead (Err fault.NoMemory) P = ⊤
OnRead (Err fault.Thread) P = P
OnRead (Err fault.Disagrees) P = P

-- how many failures of each device
pub record Failures : Type 0 where
  pub source : ℕ
  pub sink : ℕ

-- those that the answer reports
abbrev pub failures_of : {T : Type 0} → Result T PlayFault → Failures
failures_of (Ok value) = record { source = 0; sink = 0 }
failures_of (Err fault.Read) = record { source = 1; sink = 0 }
failures_of (Err fault.Write) = record { source = 0; sink = 1 }
failures_of (Err (fault.Scenario refused)) = record { source = 0; sink = 0 }
failures_of (Err fault.NoMemory) = record { source = 0; sink = 0 }
failures_of (Err fault.Thread) = record { source = 0; sink = 0 }
failures_of (Err fault.Disagrees) = record { source = 0; sink = 0 }

-- ---- a source is played to a sink

-- memory may be refused to the source, for what it gave, or once it was read to its end
abbrev pub MayRefuse : Reading → Type 0
MayRefuse source = source.is_refused ⊎ (((text : List ℕ) × source.given text × (0 < length text)) ⊎ source.is_ended)

-- The source was read to its end before anything was written, and the sink took the text that is printed of the scenario of its bytes:
-- all of it, a beginning of it after `Write`, and nothing after any other fault. Each fault has its cause, and each failure of a
-- device is reported.
pub record IsPlay (IsPrinted : Scenario → Verdict → List ℕ → Type 0) (source : Reading)
    (sink : Writing) (answer : Result Verdict PlayFault) : Type 0 where
  pub read : (text : List ℕ) × source.given text
  pub ends : OnRead answer source.is_ended
  pub played : IfOk answer (λ verdict. (text : List ℕ) × (sink.taken_after ≡ sink.taken_before ++ text)
      × Appends sink.held_before sink.held_after text × Plays IsPrinted source.whole verdict text)
  pub torn : answer ≡ Err fault.Write → (verdict : Verdict) × (text : List ℕ) × Plays IsPrinted source.whole verdict text
      × HoldsBeginning text sink.taken_before sink.taken_after sink.held_before sink.held_after
  pub caused : IfErr answer (IsCaused source.whole)
  pub memory : answer ≡ Err fault.NoMemory → MayRefuse source
  pub silent : IfErr answer (λ failed. failed ≢ fault.Write → sink.taken_after ≡ sink.taken_before)
  pub untouched : IfErr answer (λ failed. failed ≢ fault.Write → sink.held_after ≡ sink.held_before)
  pub source_failures : source.failures_after ≡ source.failures_before + (failures_of answer).source
  pub sink_failures : sink.failures_after ≡ sink.failures_before + (failures_of answer).sink
