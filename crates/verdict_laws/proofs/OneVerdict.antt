-- Two texts have one right verdict at most.
use Rattle.verdict_laws.proofs.Common.{◌≡◌, ℕ, List, sym, ◌∙◌, ap, subst, Line, History, HasOnePlaces-from_history}
use Rattle.rmm_spec.specs.declared.verdict.Reason.{Reason}
use Rattle.rmm_spec.specs.declared.verdict.Verdict.{Verdict}
use Rattle.rmm_spec.specs.declared.verdict.Verdict.TheVariants as verdict
use Rattle.rmm_spec.specs.HistoryText.{InHistories}
use Rattle.rmm_spec.specs.CertificateText.{InCertificates}
use Rattle.rmm_spec.specs.FirstFault.{FirstFault}
use Rattle.rmm_spec.specs.Judgement.{Judges, JudgesTexts}
use Rattle.spec_lemmas.proofs.HistoryGrammar.{same_history, not-IsBadLine-history}
use Rattle.spec_lemmas.proofs.CertificateLines.{same_certificate, not-IsBadLine-certificate}
use Rattle.checker.proofs.Verdicts.{Judges-valid}
use Rattle.verdict_laws.proofs.BadLines.{one_bad_line}
use Rattle.verdict_laws.proofs.OneFault.{SameFaults, one_fault}

-- whatever is right where the order is accepted says so
same_as_yes : (count : ℕ) (w : Verdict) (history certificate : List ℕ)
    → JudgesTexts (verdict.Yes count) history certificate → Judges w history certificate
    → verdict.Yes count ≡ w
same_as_yes count w history certificate p q =
    let told = Judges-valid w history certificate q p.history p.lines p.is_history p.is_certificate in
    ap (λ (n : ℕ). verdict.Yes n) p.order.counted ∙ sym (told.1 p.order.linearization)

-- the two refusals are of one history and one order
same_no : (step later : ℕ) (why other : Reason) (history certificate : List ℕ) → JudgesTexts (verdict.No step why) history certificate
    → JudgesTexts (verdict.No later other) history certificate → verdict.No step why ≡ verdict.No later other
same_no step later why other history certificate p q =
    let same_h : q.history ≡ p.history = same_history history q.history p.history q.is_history p.is_history in
    let same_c : q.lines ≡ p.lines = same_certificate certificate q.lines p.lines q.is_certificate p.is_certificate in
    let fault : FirstFault other p.history p.lines later =
    subst (λ (h : History). FirstFault other h p.lines later) same_h
    (subst (λ (ls : List Line). FirstFault other q.history ls later) same_c q.order) in
    let same : SameFaults step later why other =
    one_fault p.history (HasOnePlaces-from_history p.history p.is_history.is_history) p.lines step later why other p.order fault in
    λ i. verdict.No (same.steps i) (same.reasons i)

-- the texts' lines decide, then whether the order is accepted, then its first fault
pub one_verdict : (v w : Verdict) (history certificate : List ℕ) → Judges v history certificate → Judges w history certificate → v ≡ w
one_verdict (verdict.Yes count) w history certificate p q = same_as_yes count w history certificate p q
one_verdict v (verdict.Yes count) history certificate p q = sym (same_as_yes count v history certificate q p)
one_verdict (verdict.HistoryFault m) (verdict.HistoryFault n) history certificate p q =
    ap (λ (k : ℕ). verdict.HistoryFault k) (one_bad_line InHistories not-IsBadLine-history history m n p q)
one_verdict (verdict.HistoryFault m) (verdict.CertificateFault n) history certificate p q = absurd (not-IsBadLine-history history m q.0 p)
one_verdict (verdict.HistoryFault m) (verdict.No step why) history certificate p q =
    absurd (not-IsBadLine-history history m (q.history, q.is_history) p)
one_verdict (verdict.CertificateFault m) (verdict.HistoryFault n) history certificate p q = absurd (not-IsBadLine-history history n p.0 q)
one_verdict (verdict.CertificateFault m) (verdict.CertificateFault n) history certificate p q =
    ap (λ (k : ℕ). verdict.CertificateFault k) (one_bad_line InCertificates not-IsBadLine-certificate certificate m n p.1 q.1)
one_verdict (verdict.CertificateFault m) (verdict.No step why) history certificate p q =
    absurd (not-IsBadLine-certificate certificate m (q.lines, q.is_certificate) p.1)
one_verdict (verdict.No step why) (verdict.HistoryFault n) history certificate p q =
    absurd (not-IsBadLine-history history n (p.history, p.is_history) q)
one_verdict (verdict.No step why) (verdict.CertificateFault n) history certificate p q =
    absurd (not-IsBadLine-certificate certificate n (p.lines, p.is_certificate) q.1)
one_verdict (verdict.No step why) (verdict.No later other) history certificate p q = same_no step later why other history certificate p q
