use Rattle.std.proofs.Common.{◌∷◌, ◌++◌, ap, ◌∙◌, subst}
use Rattle.std.proofs.lemmas.Result.{err_from_is_err_and}
use Rattle.merging.specs.Faults.{IsFaultOf}
use Rattle.merging.proofs.PieceLaws.{HasRead-more, HasRead-too_long}
use Rattle.merging.proofs.reader.Reader.end_line.Goals as goal

pub returns-then-not-extend-clause-fault : goal.returns-then-not-extend-clause-fault
returns-then-not-extend-clause-fault c =
    rw c.number_after.ensures (λ text more read.
    HasRead-too_long c.args.self.now text c.args.last.now
    (10 ∷ more) read c.extend.ensures.no_newline (c.extend.ensures.too_long c.if-not-extend.true))

pub returns-in_err-read_line-clause-fault : goal.returns-in_err-read_line-clause-fault
returns-in_err-read_line-clause-fault c =
    let p = err_from_is_err_and c.from_residual.result c.from_residual.ensures.1 in
    rw (p.1, p.2) (λ text more read.
    subst (λ t. IsFaultOf t c.in_err-read_line.field-0.0)
    (ap (λ bytes. read.lines ++ (bytes ++ 10 ∷ more)) (c.bytes.ensures.bytes ∙ c.extend.ensures.kept c.if-not-extend.false)
    ∙ HasRead-more c.args.self.now text c.args.last.now (10 ∷ more) read)
    (c.in_err-read_line.ensures.fault read.lines more read.are_read))
