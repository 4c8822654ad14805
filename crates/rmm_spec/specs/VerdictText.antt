-- The one line that tells a verdict.
use Rattle.std.specs.Prelude.{ℕ, List, [], ◌∷◌, ◌++◌, codes}
use Rattle.rmm_spec.specs.declared.verdict.Reason.{Reason}
use Rattle.rmm_spec.specs.declared.verdict.Reason.TheVariants as reason
use Rattle.rmm_spec.specs.declared.verdict.Verdict.{Verdict}
use Rattle.rmm_spec.specs.declared.verdict.Verdict.TheVariants as verdict
use Rattle.rmm_spec.specs.Text.{decimal, line_text}

abbrev pub reason_parts : Reason → List (List ℕ)
reason_parts reason.Unknown = codes "unknown" ∷ []
reason_parts reason.Repeated = codes "repeated" ∷ []
reason_parts reason.Kind = codes "kind" ∷ []
reason_parts reason.Order = codes "order" ∷ []
reason_parts reason.Reply = codes "reply" ∷ []
reason_parts (reason.Missing cpu number) = codes "missing" ∷ decimal cpu ∷ decimal number ∷ []

abbrev pub verdict_parts : Verdict → List (List ℕ)
verdict_parts (verdict.HistoryFault line) = codes "fault" ∷ codes "history" ∷ decimal line ∷ []
verdict_parts (verdict.CertificateFault line) = codes "fault" ∷ codes "certificate" ∷ decimal line ∷ []
verdict_parts (verdict.Yes count) = codes "yes" ∷ decimal count ∷ []
verdict_parts (verdict.No step reason) = codes "no" ∷ decimal step ∷ reason_parts reason

-- the line with its newline
abbrev pub verdict_line : Verdict → List ℕ
verdict_line verdict = line_text (verdict_parts verdict) ++ 10 ∷ []
