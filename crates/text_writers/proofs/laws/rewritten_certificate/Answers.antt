use Rattle.std.proofs.Common.{Err, arith}
use Rattle.std.proofs.lemmas.Result.{err_from_is_err_and}
use Rattle.certificate.proofs.GrammarLemmas.{bad_line_outside, BeginsWith-written}
use Rattle.text_writers.proofs.laws.rewritten_certificate.Goals as goal

pub returns-in_err-certificate-clause-outside : goal.returns-in_err-certificate-clause-outside
returns-in_err-certificate-clause-outside c =
    let p = err_from_is_err_and c.from_residual.result c.from_residual.ensures.1 in
    rw (p.1, p.2) (λ line is given. bad_line_outside c.args.text.now
    (Err c.in_err-certificate.field-0.0) line c.in_err-certificate.ensures.fault is given)

pub returns-in_err-write_certificate-clause-fault : goal.returns-in_err-write_certificate-clause-fault
returns-in_err-write_certificate-clause-fault c =
    let p = err_from_is_err_and c.from_residual-in_err-write_certificate.result c.from_residual-in_err-write_certificate.ensures.1 in
    rw (p.1, p.2)
    (BeginsWith-written c.in_ok-certificate.certificate.lines c.args.text.now c.in_ok-certificate.ensures.found
    (omega (arith, c.in_err-write_certificate.ensures.full, c.new-again.ensures)))
