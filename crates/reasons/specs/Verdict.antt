-- The verdict that is told of.
use Rattle.rmm_spec.specs.declared.verdict.Reason.{Reason}
use Rattle.rmm_spec.specs.declared.verdict.Reason.TheVariants as reason
use Rattle.rmm_spec.specs.declared.verdict.Verdict.{Verdict}
use Rattle.rmm_spec.specs.declared.verdict.Verdict.TheVariants as verdict
use Rattle.reasons.specs.declared.explanation.Cause.{Cause}
use Rattle.reasons.specs.declared.explanation.Cause.TheVariants as cause
use Rattle.reasons.specs.declared.explanation.Explanation.{Explanation}
use Rattle.reasons.specs.declared.explanation.Explanation.TheVariants as explanation

abbrev pub reason_of : Cause → Reason
reason_of (cause.Unknown cpu number) = reason.Unknown
reason_of (cause.Repeated call earlier) = reason.Repeated
reason_of (cause.Kind call) = reason.Kind
reason_of (cause.Order call earlier other) = reason.Order
reason_of (cause.Reply refused) = reason.Reply
reason_of (cause.Missing call) = reason.Missing call.cpu call.number

abbrev pub verdict_of : Explanation → Verdict
verdict_of (explanation.HistoryFault bad) = verdict.HistoryFault bad.line
verdict_of (explanation.CertificateFault bad) = verdict.CertificateFault bad.line
verdict_of (explanation.Yes summary unfinished) = verdict.Yes summary.count
verdict_of (explanation.No step cause unfinished) = verdict.No step (reason_of cause)
