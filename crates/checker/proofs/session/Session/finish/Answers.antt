use Rattle.std.proofs.Common.{◌≡◌, Err}
use Rattle.certificate.specs.declared.fault.CertFault.TheVariants.{BadLine}
use Rattle.checker.proofs.SessionLaws.{AreOffersFor-session, Judges-session, bad_line_told}
use Rattle.checker.proofs.session.Session.finish.Goals as goal

pub returns-in-Ok-clause-judged : goal.returns-in-Ok-clause-judged
returns-in-Ok-clause-judged c = λ bytes text is_history given.
    let session = c.args.self in
    Judges-session session.certificate session.replay session.failed session.history.recorded bytes text c.verdict_on.result c.count-lines.result _
    c.finish.result c.in-Ok.is c.in-Ok.ensures.whole c.finish.ensures.failed c.count-lines.ensures.count c.verdict_on.ensures.judged is_history given

pub returns-in-Ok-clause-offers : goal.returns-in-Ok-clause-offers
returns-in-Ok-clause-offers c = λ text given.
    let session = c.args.self in
    AreOffersFor-session session.certificate session.replay session.failed session.history.recorded text c.verdict_on.result c.count-lines.result _
    c.finish.result c.in-Ok.is c.finish.ensures.failed c.count-lines.ensures.count c.verdict_on.ensures.offers given

pub returns-in-Err-BadLine-clause-judged : goal.returns-in-Err-BadLine-clause-judged
returns-in-Err-BadLine-clause-judged c = λ bytes text is_history given.
    let session = c.args.self in
    let is_bad : c.finish.result ≡ Err (BadLine c.in-Err-BadLine.line) = cc in
    rw c.in-Err-BadLine.line-is (
      (session.history.recorded, is_history),
      bad_line_told session.certificate session.replay session.failed session.history.recorded text c.in-Err-BadLine.line c.finish.result is_bad
          c.finish.ensures.bad c.finish.ensures.failed given,
    )
