use Rattle.std.proofs.lemmas.Result.{IfErr-weaker, err_from_is_err_and}
use Rattle.history.proofs.PieceLaws.{of_piece, of_line, EventEndsIn-line}
use Rattle.history.specs.Faults.{IsFaultOf}
use Rattle.history.proofs.beginning.Beginning.take.Goals as goal

pub returns-in_err-end_line-clause-fault : goal.returns-in_err-end_line-clause-fault
returns-in_err-end_line-clause-fault c =
    let p = err_from_is_err_and c.from_residual.result c.from_residual.ensures.1 in
    rw (p.1, p.2)
    (of_line (λ text. IsFaultOf text c.in_err-end_line.field-0.0) c.args.self.now c.args.piece.now c.loop-rest.self c.loop-rest.rest.now
    c.in-Some-next_line.last.now c.in-Some-next_line.more.now c.loop-rest.invariant.same c.in-Some-next_line.ensures.line
    (rw c.in_default.ensures.none at c.in_err-end_line.ensures.fault))

pub returns-in_default-next_line-clause-fault : goal.returns-in_default-next_line-clause-fault
returns-in_default-next_line-clause-fault c =
    IfErr-weaker c.hold.result _ _
    (λ fault each.
    of_piece (λ text. IsFaultOf text fault) c.args.self.now c.args.piece.now c.loop-rest.self c.loop-rest.rest.now c.loop-rest.invariant.same each)
    (rw c.in_default.ensures.none at c.hold.ensures.fault)

pub returns-in_err-end_line-clause-memory : goal.returns-in_err-end_line-clause-memory
returns-in_err-end_line-clause-memory c =
    let p = err_from_is_err_and c.from_residual.result c.from_residual.ensures.1 in
    rw (p.1, p.2) (λ refused.
    EventEndsIn-line c.args.self.now c.args.piece.now c.loop-rest.self c.loop-rest.rest.now c.in-Some-next_line.last.now c.in-Some-next_line.more.now
    c.loop-rest.invariant.same c.in-Some-next_line.ensures.line c.loop-rest.invariant.longer
    ((rw c.in_default.ensures.none at c.in_err-end_line.ensures.memory) refused))
