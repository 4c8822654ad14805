-- The run that two texts stand for.
use Rattle.std.specs.Prelude.{ℕ, Bool, true, false, List}
use Rattle.rmm_spec.specs.HistoryText.{IsHistoryText}
use Rattle.rmm_spec.specs.CertificateText.{IsCertificateText}
use Rattle.reasons.specs.declared.explanation.Explanation.{Explanation}
use Rattle.reasons.specs.declared.explanation.Explanation.TheVariants.{HistoryFault, CertificateFault, Yes, No}
use Rattle.explain.specs.declared.explained_run.Run.{Run}

abbrev pub IsRunOf : List ℕ → List ℕ → Run → Type 0
IsRunOf history certificate run = IsHistoryText history run.history.recorded × IsCertificateText certificate run.certificate.lines

-- both texts stand for something where neither has a bad line
abbrev pub has_run : Explanation → Bool
has_run (HistoryFault flaw) = false
has_run (CertificateFault flaw) = false
has_run (Yes summary unfinished) = true
has_run (No step cause unfinished) = true
