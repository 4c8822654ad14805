-- The history's bad line, and the session's verdict on the certificate.
use Rattle.std.proofs.Common.{[], inl, inr, sym, ◌∙◌, subst}
use Rattle.std.proofs.lemmas.Result.{IfOk-weaker}
use Rattle.rmm_spec.specs.HistoryText.{IsHistoryText}
use Rattle.rmm_spec.specs.declared.verdict.Verdict.TheVariants as verdict
use Rattle.checker.proofs.Verdicts.{Judges-valid, OnErr-always}
use Rattle.checker.proofs.judgement.check.Goals as goal

pub returns-in-Err-BadLine-clause-valid : goal.returns-in-Err-BadLine-clause-valid
returns-in-Err-BadLine-clause-valid c =
    let bad = rw c.in-Err-BadLine.field-0-is at c.in-Err-BadLine.ensures.fault in
    rw c.in-Err-BadLine.line-is
    (Judges-valid (verdict.HistoryFault c.in-Err-BadLine.line) c.args.history.now c.args.certificate.now bad)

-- the session's history is the one that was read
same_history : (c : goal.After-finish) → IsHistoryText c.args.history.now c.feed.new.self.history.recorded
same_history c =
    subst (IsHistoryText c.args.history.now) (sym (c.feed.ensures.history ∙ c.in_ok-session.ensures.history)) c.in-Ok.ensures.found

pub returns-clause-judged : goal.returns-clause-judged
returns-clause-judged c =
    let given = c.in_ok-feed.ensures.judged [] c.in_ok-session.ensures.judged in
    IfOk-weaker c.finish.result _ _ (λ v judged. judged c.args.history.now c.args.certificate.now (same_history c) given) c.finish.ensures.judged

pub returns-clause-valid : goal.returns-clause-valid
returns-clause-valid c =
    let given = c.in_ok-feed.ensures.judged [] c.in_ok-session.ensures.judged in
    IfOk-weaker c.finish.result _ _
    (λ v judged.
    Judges-valid v c.args.history.now c.args.certificate.now (judged c.args.history.now c.args.certificate.now (same_history c) given))
    c.finish.ensures.judged

pub returns-in-Err-NoMemory-clause-refused : goal.returns-in-Err-NoMemory-clause-refused
returns-in-Err-NoMemory-clause-refused c = inl (rw c.in-Err-NoMemory.field-0-is at c.in-Err-NoMemory.ensures.fault)

pub returns-in_err-session-clause-refused : goal.returns-in_err-session-clause-refused
returns-in_err-session-clause-refused c =
    OnErr-always c.from_residual.result (inr (c.in-Ok.history.recorded, c.in-Ok.ensures.found))

pub returns-in_err-feed-clause-refused : goal.returns-in_err-feed-clause-refused
returns-in_err-feed-clause-refused c =
    OnErr-always c.from_residual-in_err-feed.result (inr (c.in-Ok.history.recorded, c.in-Ok.ensures.found))

pub returns-clause-refused : goal.returns-clause-refused
returns-clause-refused c = OnErr-always c.finish.result (inr (c.in-Ok.history.recorded, c.in-Ok.ensures.found))
