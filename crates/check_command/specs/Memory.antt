-- Why a judgement is refused memory.
use Rattle.std.specs.Prelude.{◌≡◌, ◌⊎◌, ℕ, ◌<◌, List, [], ◌∷◌, ◌++◌, length}
use Rattle.rmm_spec.specs.declared.line.Line.{Line}
use Rattle.rmm_spec.specs.declared.verdict.Verdict.{Verdict}
use Rattle.rmm_spec.specs.CertificateText.{certificate_text}
use Rattle.rmm_spec.specs.HistoryText.{History, IsHistoryText}
use Rattle.rmm_spec.specs.Judgement.{Judges}
use Rattle.rmm_spec.specs.VerdictText.{verdict_line}
use Rattle.checker.specs.Judgement.{TakesMemory}
use Rattle.checker.specs.Replay.{IsRefusedMemory, IsReplayOf}
use Rattle.checker.specs.declared.replay.Replay.{Replay}
use Rattle.devices.specs.Sink.{Writing}
use Rattle.devices.specs.Source.{Reading}

-- a verdict on two texts that are those of the history and the certificate
pub record JudgesThose (verdict : Verdict) (IsHistory IsCertificate : List ℕ → Type 0) : Type 0 where
  pub history : List ℕ
  pub certificate : List ℕ
  pub is_history : IsHistory history
  pub is_certificate : IsCertificate certificate
  pub judged : Judges verdict history certificate

-- The certificate isn't begun. Memory was refused to the history's source, or for the bytes that it gave: for an event with which
-- they begin, or for the machine of a whole history.
pub record RefusesHistory (history certificate : Reading) : Type 0 where
  pub is_untouched : certificate.is_untouched
  pub cause : history.is_refused ⊎ ((text : List ℕ) × history.given text × TakesMemory text)

-- the text begins with lines that pass, and one after them is refused memory
pub record RefusesLine (history : History) (text : List ℕ) : Type 0 where
  pub before : List Line
  pub line : Line
  pub later : List ℕ
  pub is_text : text ≡ certificate_text (before ++ line ∷ []) ++ later
  pub replay : Replay
  pub is_replay : IsReplayOf replay history before
  pub refused : IsRefusedMemory replay history line

-- after a whole history memory was refused for a line of the bytes that the certificate's source gave
pub record RefusesCertificate (history certificate : Reading) : Type 0 where
  pub bytes : List ℕ
  pub is_history : history.whole bytes
  pub recorded : History
  pub states : IsHistoryText bytes recorded
  pub text : List ℕ
  pub is_given : certificate.given text
  pub refused : RefusesLine recorded text

-- the sink has no room for the line of the verdict on the two texts
pub record RefusesRoom (history certificate : Reading) (sink : Writing) : Type 0 where
  pub verdict : Verdict
  pub judged : JudgesThose verdict history.whole certificate.whole
  pub short : sink.room < length (verdict_line verdict)

-- a verdict is refused memory: before the certificate, to its source, or for one of its lines
abbrev pub RefusesVerdict : Reading → Reading → Type 0
RefusesVerdict history certificate = RefusesHistory history certificate ⊎ (certificate.is_refused ⊎ RefusesCertificate history certificate)

-- and so is a judgement, or where its line has no room
abbrev pub RefusesJudgement : Reading → Reading → Writing → Type 0
RefusesJudgement history certificate sink = RefusesVerdict history certificate ⊎ RefusesRoom history certificate sink
