-- What a check ends with where one of its parts reports a fault, and what each fault says of the words.
use Rattle.std.specs.Prelude.{◌≡◌, ◌≢◌, ◌⊎◌, ⊤, ℕ, List, [], ◌∷◌, length, Result, Ok, Err, codes}
use Rattle.std.specs.declared.io.ErrorKind.{ErrorKind}
use Rattle.std.specs.declared.io.ErrorKind.TheVariants.{OutOfMemory}
use Rattle.devices.specs.Sink.{Writing}
use Rattle.devices.specs.Source.{Reading}
use Rattle.rmm_spec.specs.declared.verdict.Verdict.{Verdict}
use Rattle.check_command.specs.Ending.{status_of, fault_line, fault_at}
use Rattle.check_command.specs.Judgement.{IsJudgement}
use Rattle.check_command.specs.declared.fault.Fault.TheVariants as of_device
use Rattle.check_command.specs.declared.fault.Paths.{Paths}
use Rattle.check_command.specs.declared.judgement.JudgeFault.{JudgeFault}
use Rattle.check_command.specs.declared.fault.CheckFault.{CheckFault}
use Rattle.check_command.specs.declared.fault.CheckFault.TheVariants as fault

-- ---- how a check ends

-- its exit status after a fault
abbrev pub check_status : CheckFault → ℕ
check_status fault.Arguments = 2
check_status (fault.Device failed) = status_of (Err failed)

-- and its line, without the newline
abbrev pub check_line : CheckFault → List ℕ
check_line fault.Arguments = codes "rmmcheck: arguments"
check_line (fault.Device failed) = fault_line failed

-- ---- faults of its parts

-- the words can't be read: memory is refused, or one of them isn't UTF-8
abbrev pub unread_fault : ErrorKind → CheckFault
unread_fault OutOfMemory = fault.Device of_device.NoMemory
unread_fault _ = fault.Arguments

-- a check of the files at these paths ends so: the judgement has a fault, an open one being a read of its file
abbrev pub EndsCheck : Paths → CheckFault → Type 0
EndsCheck paths ended = (failed : JudgeFault) × (ended ≡ fault.Device (fault_at paths failed))

-- how a check of the files at these paths ends after a judgement's answer
abbrev pub checked : Paths → Result Verdict JudgeFault → Result Verdict CheckFault
checked paths (Ok verdict) = Ok verdict
checked paths (Err failed) = Err (fault.Device (fault_at paths failed))

-- the two sources were judged, the line of the verdict was for the sink, and the check ends so for the files at these paths
pub record EndsJudgement (paths : Paths) (history certificate : Reading) (sink : Writing) (ended : Result Verdict CheckFault) : Type 0 where
  pub answer : Result Verdict JudgeFault
  pub is_judgement : IsJudgement history certificate sink answer
  pub is_end : ended ≡ checked paths answer

-- ---- causes in the words

-- the words are the program's name and two paths, of which this is one
abbrev pub Names : List (List ℕ) → List ℕ → Type 0
Names (name ∷ history ∷ certificate ∷ []) path = (path ≡ history) ⊎ (path ≡ certificate)
Names words path = ⊥

-- The words are the cause of this fault: `Arguments` only where they aren't the program's name and two paths, a path only where it is
-- one of the two, and standard output only where there are two.
abbrev pub HasCause : List (List ℕ) → CheckFault → Type 0
HasCause words fault.Arguments = length words ≢ 3
HasCause words (fault.Device (of_device.CannotRead path)) = Names words path.now
HasCause words (fault.Device of_device.CannotWrite) = length words ≡ 3
HasCause words (fault.Device of_device.NoMemory) = ⊤
