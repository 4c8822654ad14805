use Rattle.std.proofs.Common.{[], subst}
use Rattle.std.proofs.lemmas.List.{append-nil}
use Rattle.std.proofs.lemmas.Result.{err_from_is_err_and}
use Rattle.certificate.specs.Faults.{IsFaultOf}
use Rattle.certificate.proofs.PieceLemmas.{HasRead-new, IsFaultOf-whole, IsCertificateText-whole}
use Rattle.certificate.proofs.reader.read.Goals as goal

pub read_lines-requires : goal.read_lines-requires
read_lines-requires c = ([], HasRead-new c.new-reader.result c.new-lines.result.lines c.new-reader.ensures c.new-lines.ensures)

pub returns-in_err-read_lines-clause-fault : goal.returns-in_err-read_lines-clause-fault
returns-in_err-read_lines-clause-fault c =
    let p = err_from_is_err_and c.from_residual.result c.from_residual.ensures.1 in
    let start = HasRead-new c.new-reader.result c.new-lines.result.lines c.new-reader.ensures c.new-lines.ensures in
    rw (p.1, p.2) (subst (λ text. IsFaultOf text c.in_err-read_lines.field-0.0)
    (append-nil c.args.text.now) (c.in_err-read_lines.ensures.fault [] [] start))

pub returns-in_err-finish-clause-fault : goal.returns-in_err-finish-clause-fault
returns-in_err-finish-clause-fault c =
    let p = err_from_is_err_and c.from_residual-in_err-finish.result c.from_residual-in_err-finish.ensures.1 in
    let start = HasRead-new c.new-reader.result c.new-lines.result.lines c.new-reader.ensures c.new-lines.ensures in
    rw (p.1, p.2)
    (IsFaultOf-whole c.args.text.now c.read_lines.new.lines.lines c.read_lines.new.reader c.in_err-finish.field-0.0
    (c.in_ok-read_lines.ensures.read [] start) c.in_err-finish.ensures.bad)

pub returns-clause-found : goal.returns-clause-found
returns-clause-found c =
    let start = HasRead-new c.new-reader.result c.new-lines.result.lines c.new-reader.ensures c.new-lines.ensures in
    IsCertificateText-whole c.args.text.now c.read_lines.new.lines.lines c.read_lines.new.reader (c.in_ok-read_lines.ensures.read [] start)
    c.in_ok-finish.ensures.whole
