use Rattle.std.proofs.Common.{◌++◌, refl, drop}
use Rattle.std.proofs.lemmas.Result.{err_from_is_err_and}
use Rattle.certificate.proofs.PieceLemmas.{IsReadUpTo-next, HasRead-piece, IsFaultOf-refused, IsFaultOf-memory, IsCertificate-read, over}
use Rattle.certificate.specs.Pieces.{with_told}
use Rattle.certificate.proofs.reader.read_lines.Goals as goal

pub returns-in_err-count-clause-fault : goal.returns-in_err-count-clause-fault
returns-in_err-count-clause-fault c =
    let p = err_from_is_err_and c.from_residual.result c.from_residual.ensures.1 in
    rw (p.1, p.2) (λ text more read.
    IsFaultOf-refused text c.args.piece.now c.loop-rest.rest.now more
    c.loop-rest.lines.lines c.loop-rest.reader c.next.new.self c.in_err-count.field-0.0
    c.in_err-count.ensures.answered c.in_err-count.ensures.bad (c.loop-rest.invariant text read))

pub append_told-requires : goal.append_told-requires
append_told-requires c =
    let before = c.requires in
    let after =
    IsReadUpTo-next (before.0 ++ c.args.piece.now) c.loop-rest.rest.now (drop c.in_ok-count.count c.loop-rest.rest.now) c.loop-rest.lines.lines
    (with_told c.loop-rest.lines.lines c.in_ok-count.line) c.loop-rest.reader c.next.new.self c.in_ok-count.count c.in_ok-count.line refl refl
    c.in_ok-count.ensures.answered c.in_ok-count.ensures.read (c.loop-rest.invariant before.0 before.1) in
    IsCertificate-read c.next.new.self after.front (with_told c.loop-rest.lines.lines c.in_ok-count.line) after.read

pub returns-in_err-append_told-clause-fault : goal.returns-in_err-append_told-clause-fault
returns-in_err-append_told-clause-fault c =
    let p = err_from_is_err_and c.from_residual-in_err-append_told.result c.from_residual-in_err-append_told.ensures.1 in
    rw (p.1, p.2) (λ text more read.
    IsFaultOf-memory text c.args.piece.now (drop c.in_ok-count.count c.loop-rest.rest.now) more (with_told c.loop-rest.lines.lines c.in_ok-count.line)
    c.next.new.self
    (IsReadUpTo-next (text ++ c.args.piece.now) c.loop-rest.rest.now (drop c.in_ok-count.count c.loop-rest.rest.now) c.loop-rest.lines.lines
    (with_told c.loop-rest.lines.lines c.in_ok-count.line) c.loop-rest.reader c.next.new.self c.in_ok-count.count c.in_ok-count.line refl refl
    c.in_ok-count.ensures.answered c.in_ok-count.ensures.read (c.loop-rest.invariant text read))
    c.in_err-append_told.ensures.refused)

pub loop-rest-preserved : goal.loop-rest-preserved
loop-rest-preserved c = λ text read.
    IsReadUpTo-next (text ++ c.args.piece.now) c.loop-rest.rest.now c.split_at.result.1.now c.loop-rest.lines.lines c.append_told.new.lines.lines
    c.loop-rest.reader c.next.new.self c.in_ok-count.count c.in_ok-count.line c.split_at.ensures.back c.in_ok-append_told.ensures.ok
    c.in_ok-count.ensures.answered c.in_ok-count.ensures.read (c.loop-rest.invariant text read)

pub returns-clause-read : goal.returns-clause-read
returns-clause-read c = λ text read.
    HasRead-piece (text ++ c.args.piece.now) c.loop-rest.rest.now c.loop-rest.lines.lines c.loop-rest.reader
    (over c.loop-rest.rest.now c.loop-rest-test.ensures) (c.loop-rest.invariant text read)
