use Rattle.std.proofs.Common.{[], subst}
use Rattle.std.proofs.lemmas.List.{append-nil}
use Rattle.std.proofs.lemmas.Result.{err_from_is_err_and}
use Rattle.history.specs.Faults.{IsFaultOf}
use Rattle.history.proofs.reader.read.Goals as goal

pub returns-in_err-feed-clause-fault : goal.returns-in_err-feed-clause-fault
returns-in_err-feed-clause-fault c =
    let p = err_from_is_err_and c.from_residual.result c.from_residual.ensures.1 in
    let each = rw c.new-reader.ensures at c.in_err-feed.ensures.fault in
    rw (p.1, p.2) (subst (λ text. IsFaultOf text c.in_err-feed.field-0.0) (append-nil c.args.text.now) (each []))
