-- A true verdict is Yes exactly where the order is a linearization.
use Rattle.std.proofs.Common.{◌≡◌, ◌↔◌, ℕ, List, length, Result, Ok, Err, ap, subst}
use Rattle.std.specs.Prelude.{OnErr}
use Rattle.rmm_spec.specs.declared.line.Line.{Line}
use Rattle.rmm_spec.specs.declared.verdict.Verdict.{Verdict}
use Rattle.rmm_spec.specs.declared.verdict.Verdict.TheVariants as verdict
use Rattle.rmm_spec.specs.HistoryText.{History, IsHistoryText}
use Rattle.rmm_spec.specs.CertificateText.{IsCertificateText}
use Rattle.rmm_spec.specs.Linearization.{IsLinearization}
use Rattle.rmm_spec.specs.FirstFault.{FirstFault}
use Rattle.rmm_spec.specs.Judgement.{Accepts, JudgesOrder, Judges, JudgesTexts}
use Rattle.spec_lemmas.proofs.HistoryGrammar.{same_history, not-IsBadLine-history}
use Rattle.spec_lemmas.proofs.CertificateLines.{same_certificate, not-IsBadLine-certificate}
use Rattle.checker.proofs.Excludes.{not-IsLinearization}
use Rattle.spec_lemmas.proofs.Calls.{HasOnePlaces-from_history}

-- a verdict on the order that the texts stand for is one on the texts
pub Judges-from_order : (v : Verdict) (history_bytes certificate_bytes : List ℕ) (history : History) (lines : List Line)
    → IsHistoryText history_bytes history → IsCertificateText certificate_bytes lines → JudgesOrder v history lines
    → Judges v history_bytes certificate_bytes
Judges-from_order (verdict.HistoryFault line) history_bytes certificate_bytes history lines is_history is_certificate order = absurd order
Judges-from_order (verdict.CertificateFault line) history_bytes certificate_bytes history lines is_history is_certificate order = absurd order
Judges-from_order (verdict.Yes count) history_bytes certificate_bytes history lines is_history is_certificate order =
    record { history = history; lines = lines; is_history = is_history; is_certificate = is_certificate; order = order }
Judges-from_order (verdict.No step why) history_bytes certificate_bytes history lines is_history is_certificate order =
    record { history = history; lines = lines; is_history = is_history; is_certificate = is_certificate; order = order }

-- what is told of the texts' history and order is told of any that they stand for
order_of : (v : Verdict) (history_bytes certificate_bytes : List ℕ) (history : History) (lines : List Line) → (P : History → List Line → Type 0)
    → IsHistoryText history_bytes history → IsCertificateText certificate_bytes lines → (judged : JudgesTexts v history_bytes certificate_bytes)
    → P judged.history judged.lines → P history lines
order_of v history_bytes certificate_bytes history lines P is_history is_certificate judged holds =
    subst (λ (h : History). P h lines) (same_history history_bytes judged.history history judged.is_history is_history)
    (subst (λ (ls : List Line). P judged.history ls)
    (same_certificate certificate_bytes judged.lines lines judged.is_certificate is_certificate) holds)

-- so that a true verdict is Yes exactly for a linearization
pub Judges-valid : (v : Verdict) (history_bytes certificate_bytes : List ℕ) → Judges v history_bytes certificate_bytes
    → (history : History) (lines : List Line) → IsHistoryText history_bytes history → IsCertificateText certificate_bytes lines
    → (v ≡ verdict.Yes (length lines)) ↔ IsLinearization history lines
Judges-valid (verdict.HistoryFault line) history_bytes certificate_bytes judged history lines is_history is_certificate =
    (λ yes. absurd cc, λ valid. absurd (not-IsBadLine-history history_bytes line (history, is_history) judged))
Judges-valid (verdict.CertificateFault line) history_bytes certificate_bytes judged history lines is_history is_certificate =
    (λ yes. absurd cc, λ valid. absurd (not-IsBadLine-certificate certificate_bytes line (lines, is_certificate) judged.1))
Judges-valid (verdict.Yes count) history_bytes certificate_bytes judged history lines is_history is_certificate =
    let accepts = order_of (verdict.Yes count) history_bytes certificate_bytes history lines
    (λ h ls. Accepts h ls count) is_history is_certificate judged judged.order in
    (λ yes. accepts.linearization, λ valid. ap (λ (n : ℕ). verdict.Yes n) accepts.counted)
Judges-valid (verdict.No step why) history_bytes certificate_bytes judged history lines is_history is_certificate =
    let fault = order_of (verdict.No step why) history_bytes certificate_bytes history lines
    (λ h ls. FirstFault why h ls step) is_history is_certificate judged judged.order in (
      λ yes. absurd cc,
      λ valid. absurd (not-IsLinearization history (HasOnePlaces-from_history history is_history.is_history) why lines step fault valid),
    )

-- what holds anyhow holds where there is an error
pub OnErr-always : {T E P : Type 0} (r : Result T E) → P → OnErr r P
OnErr-always (Ok value) p = tt
OnErr-always (Err error) p = p
