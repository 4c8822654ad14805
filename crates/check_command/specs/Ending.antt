-- How a judgement ends: its exit status, and a fault's line on standard error. This project's own.
use Rattle.std.specs.Prelude.{ℕ, List, ◌++◌, Result, Ok, Err, codes}
use Rattle.rmm_spec.specs.declared.verdict.Verdict.{Verdict}
use Rattle.rmm_spec.specs.declared.verdict.Verdict.TheVariants as verdict
use Rattle.check_command.specs.declared.fault.Fault.{Fault}
use Rattle.check_command.specs.declared.fault.Fault.TheVariants as fault
use Rattle.check_command.specs.declared.fault.Paths.{Paths}
use Rattle.check_command.specs.declared.judgement.JudgeFault.{JudgeFault}
use Rattle.check_command.specs.declared.judgement.JudgeFault.TheVariants as judge_fault

abbrev pub status_of : Result Verdict Fault → ℕ
status_of (Ok (verdict.Yes count)) = 0
status_of (Ok (verdict.No step why)) = 1
status_of (Ok (verdict.HistoryFault line)) = 2
status_of (Ok (verdict.CertificateFault line)) = 2
status_of (Err (fault.CannotRead path)) = 3
status_of (Err fault.CannotWrite) = 3
status_of (Err fault.NoMemory) = 3

-- without its newline
abbrev pub fault_line : Fault → List ℕ
fault_line (fault.CannotRead path) = codes "rmmcheck: cannot read " ++ path.now
fault_line fault.CannotWrite = codes "rmmcheck: cannot write"
fault_line fault.NoMemory = codes "rmmcheck: no memory"

-- what a fault of the judgement is, for the files at two paths
abbrev pub fault_at : Paths → JudgeFault → Fault
fault_at paths judge_fault.ReadHistory = fault.CannotRead paths.history
fault_at paths judge_fault.ReadCertificate = fault.CannotRead paths.certificate
fault_at paths judge_fault.Write = fault.CannotWrite
fault_at paths judge_fault.NoMemory = fault.NoMemory
