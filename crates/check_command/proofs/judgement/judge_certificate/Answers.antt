use Rattle.std.proofs.Common.{inl, inr, refl, sym, subst}
use Rattle.rmm_spec.specs.HistoryText.{IsHistoryText}
use Rattle.check_command.proofs.CertificateTexts.{not_refused}
use Rattle.check_command.proofs.Judged.{passed_on, session_refused}
use Rattle.check_command.proofs.judgement.judge_certificate.Goals as goal

pub returns-in-Ok-clause-judged : goal.returns-in-Ok-clause-judged
returns-in-Ok-clause-judged g c = λ bytes is_history.
    let read = c.in_default.ensures.read in
    let begun = subst (IsHistoryText bytes) (sym c.in_ok-session.ensures.history) is_history in
    let given = read.1.1.1 bytes (begun, c.in_ok-session.ensures.judged, c.in_ok-session.ensures.going) in (
      read.0,
      (
        record { given = read.1.0; whole = read.1.1.0 },
        c.in-Ok.ensures.judged bytes read.0 given.0 given.1,
      ),
    )

pub returns-in_err-session-clause-memory : goal.returns-in_err-session-clause-memory
returns-in_err-session-clause-memory g c = λ _. inl refl

pub returns-in-Err-clause-memory : goal.returns-in-Err-clause-memory
returns-in-Err-clause-memory g c = λ same.
    inr (session_refused _ _ _ _ c.args.history.recorded
    (λ bytes states. (
      subst (IsHistoryText bytes) (sym c.in_ok-session.ensures.history) states,
      c.in_ok-session.ensures.judged,
      c.in_ok-session.ensures.going,
    ))
    (c.read_certificate.ensures.memory (passed_on c.read_certificate.result c.in-Err.fault c.in-Err.is same)))

-- the session has gone on
pub returns-in-Err-finish-clause-memory : goal.returns-in-Err-finish-clause-memory
returns-in-Err-finish-clause-memory g c = λ _. inr (inr (λ bytes is_history.
    let read = c.in_default.ensures.read in
    let begun = subst (IsHistoryText bytes) (sym c.in_ok-session.ensures.history) is_history in
    let given = read.1.1.1 bytes (begun, c.in_ok-session.ensures.judged, c.in_ok-session.ensures.going) in
    absurd (not_refused c.finish.result _ _ c.in-Err-finish.is c.finish.ensures.answered given.2)))
