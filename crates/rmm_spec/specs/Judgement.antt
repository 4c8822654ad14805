-- What a verdict on two texts means.
use Rattle.std.specs.Prelude.{◌≡◌, ℕ, ◌≤◌, List, length, take}
use Rattle.rmm_spec.specs.declared.line.Line.{Line}
use Rattle.rmm_spec.specs.declared.verdict.Verdict.{Verdict}
use Rattle.rmm_spec.specs.declared.verdict.Verdict.TheVariants as verdict
use Rattle.rmm_spec.specs.Text.{IsBadLine}
use Rattle.rmm_spec.specs.HistoryText.{History, IsHistoryText, InHistories}
use Rattle.rmm_spec.specs.CertificateText.{IsCertificateText, InCertificates}
use Rattle.rmm_spec.specs.State.{State, opening}
use Rattle.rmm_spec.specs.Run.{JournalEntry, IsRun}
use Rattle.rmm_spec.specs.Linearization.{IsLinearization}
use Rattle.rmm_spec.specs.FirstFault.{FirstFault}
use Rattle.rmm_spec.specs.Ownership.{IsIsolated}

-- after every first part of the commits, the empty one and the whole included, every granule is at most one realm's
abbrev pub IsIsolatedThroughout : History → List JournalEntry → Type 0
IsIsolatedThroughout history entries =
    (count : ℕ) (s : State) → count ≤ length entries → IsRun (opening history.config) (take count entries) s → IsIsolated (take count entries) s

-- The order is a linearization of so many lines, and isolated throughout.
pub record Accepts (history : History) (lines : List Line) (count : ℕ) : Type 0 where
  pub linearization : IsLinearization history lines
  pub counted : count ≡ length lines
  pub isolated : IsIsolatedThroughout history linearization.entries

abbrev pub JudgesOrder : Verdict → History → List Line → Type 0
JudgesOrder (verdict.HistoryFault line) history lines = ⊥
JudgesOrder (verdict.CertificateFault line) history lines = ⊥
JudgesOrder (verdict.Yes count) history lines = Accepts history lines count
JudgesOrder (verdict.No step why) history lines = FirstFault why history lines step

-- the texts stand for a history and an order, of which the verdict is true
pub record JudgesTexts (judged : Verdict) (history_bytes certificate_bytes : List ℕ) : Type 0 where
  pub history : History
  pub lines : List Line
  pub is_history : IsHistoryText history_bytes history
  pub is_certificate : IsCertificateText certificate_bytes lines
  pub order : JudgesOrder judged history lines

-- A history's bad line is told before a certificate's, and that before any judgement.
abbrev pub Judges : Verdict → List ℕ → List ℕ → Type 0
Judges (verdict.HistoryFault line) history certificate = IsBadLine InHistories history line
Judges (verdict.CertificateFault line) history certificate = InHistories history × IsBadLine InCertificates certificate line
Judges (verdict.Yes count) history certificate = JudgesTexts (verdict.Yes count) history certificate
Judges (verdict.No step why) history certificate = JudgesTexts (verdict.No step why) history certificate
