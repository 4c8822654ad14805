-- What is printed of a run.
use Rattle.std.specs.Prelude.{ℕ, List, [], ◌∷◌, ◌++◌}
use Rattle.rmm_spec.specs.declared.line.Line.{Line}
use Rattle.rmm_spec.specs.declared.verdict.Verdict.{Verdict}
use Rattle.rmm_spec.specs.CertificateText.{certificate_text}
use Rattle.rmm_spec.specs.HistoryText.{History, history_text}
use Rattle.rmm_spec.specs.VerdictText.{verdict_line}

-- both texts, each with an empty line behind it, and the line of the verdict
unfoldable pub run_text : History → List Line → Verdict → List ℕ
run_text history lines judged = ((history_text history ++ 10 ∷ []) ++ certificate_text lines ++ 10 ∷ []) ++ verdict_line judged
