-- What the answer of a judgement says of its two sources and its sink.
use Rattle.std.specs.Prelude.{◌≡◌, ◌≢◌, ◌⊎◌, ℕ, ◌+◌, List, ◌++◌, ⊤, Option, Result, Ok, Err, IfOk, IfErr}
use Rattle.std.specs.Io.KnownBytes.{Appends}
use Rattle.rmm_spec.specs.declared.verdict.Verdict.{Verdict}
use Rattle.rmm_spec.specs.VerdictText.{verdict_line}
use Rattle.check_command.specs.Memory.{JudgesThose, RefusesJudgement}
use Rattle.check_command.specs.declared.judgement.JudgeFault.{JudgeFault}
use Rattle.check_command.specs.declared.judgement.JudgeFault.TheVariants as fault
use Rattle.devices.specs.Sink.{HoldsBeginning, Writing}
use Rattle.devices.specs.Source.{Reading}

-- this holds where a verdict was reached, whether or not its line could be written
abbrev pub OnVerdict : Result Verdict JudgeFault → Type 0 → Type 0
OnVerdict (Ok verdict) P = P
OnVerdict (Err fault.Write) P = P
OnVerdict (Err fault.ReadHistory) P = ⊤
OnVerdict (Err fault.ReadCertificate) P = ⊤
OnVerdict (Err fault.NoMemory) P = ⊤

-- a verdict on those texts, of whose line the sink took a beginning
pub record BreaksOff (IsHistory IsCertificate : List ℕ → Type 0) (before after : List ℕ) (held_before held_after : Option (List ℕ)) : Type 0 where
  pub verdict : Verdict
  pub judged : JudgesThose verdict IsHistory IsCertificate
  pub begun : HoldsBeginning (verdict_line verdict) before after held_before held_after

-- how many failures of each device
pub record Failures : Type 0 where
  pub history : ℕ
  pub certificate : ℕ
  pub sink : ℕ

-- those that the answer reports
abbrev pub failures_of : {T : Type 0} → Result T JudgeFault → Failures
failures_of (Ok value) = record { history = 0; certificate = 0; sink = 0 }
failures_of (Err fault.ReadHistory) = record { history = 1; certificate = 0; sink = 0 }
failures_of (Err fault.ReadCertificate) = record { history = 0; certificate = 1; sink = 0 }
failures_of (Err fault.Write) = record { history = 0; certificate = 0; sink = 1 }
failures_of (Err fault.NoMemory) = record { history = 0; certificate = 0; sink = 0 }

-- The history is read to its end before the certificate is begun, and nothing is done to a source but that it is read.
-- With a verdict both texts were read to their ends, and what the sink took is the line of the verdict on them; where it is known
-- what was left of a source's text, that was judged. After `Write` the sink took a beginning of the line, and after any other fault
-- nothing. A device is blamed for a failure of its own in this call, no failure is passed over, and refused memory has its cause.
pub record IsJudgement (history certificate : Reading) (sink : Writing) (answer : Result Verdict JudgeFault) : Type 0 where
  pub order : history.is_ended ⊎ certificate.is_untouched
  pub history_read : (text : List ℕ) × history.given text
  pub certificate_read : (text : List ℕ) × certificate.given text
  pub ends : OnVerdict answer (history.is_ended × certificate.is_ended)
  pub judged : IfOk answer (λ verdict. JudgesThose verdict history.whole certificate.whole)
  pub written : IfOk answer (λ verdict. sink.taken_after ≡ sink.taken_before ++ verdict_line verdict)
  pub held : IfOk answer (λ verdict. Appends sink.held_before sink.held_after (verdict_line verdict))
  pub torn : answer ≡ Err fault.Write
      → BreaksOff history.whole certificate.whole sink.taken_before sink.taken_after sink.held_before sink.held_after
  pub silent : IfErr answer (λ failed. failed ≢ fault.Write → sink.taken_after ≡ sink.taken_before)
  pub untouched : IfErr answer (λ failed. failed ≢ fault.Write → sink.held_after ≡ sink.held_before)
  pub memory : answer ≡ Err fault.NoMemory → RefusesJudgement history certificate sink
  pub history_failures : history.failures_after ≡ history.failures_before + (failures_of answer).history
  pub certificate_failures : certificate.failures_after ≡ certificate.failures_before + (failures_of answer).certificate
  pub sink_failures : sink.failures_after ≡ sink.failures_before + (failures_of answer).sink
