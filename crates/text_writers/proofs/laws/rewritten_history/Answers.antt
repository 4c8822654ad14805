use Rattle.std.proofs.Common.{Err}
use Rattle.std.proofs.lemmas.Result.{err_from_is_err_and}
use Rattle.history.proofs.GrammarLaws.{bad_line_outside, BeginsWith-whole, IsFaultOfRewriting-read}
use Rattle.text_writers.proofs.laws.rewritten_history.Goals as goal

pub returns-in_err-history-clause-fault : goal.returns-in_err-history-clause-fault
returns-in_err-history-clause-fault c =
    let p = err_from_is_err_and c.from_residual.result c.from_residual.ensures.1 in
    rw (p.1, p.2) (IsFaultOfRewriting-read c.args.text.now c.in_err-history.field-0.0 c.in_err-history.ensures.fault)

pub returns-in_err-history-clause-outside : goal.returns-in_err-history-clause-outside
returns-in_err-history-clause-outside c =
    let p = err_from_is_err_and c.from_residual.result c.from_residual.ensures.1 in
    rw (p.1, p.2)
    (λ line is given. bad_line_outside c.args.text.now (Err c.in_err-history.field-0.0) line
    (IsFaultOfRewriting-read c.args.text.now c.in_err-history.field-0.0 c.in_err-history.ensures.fault) is given)

pub returns-in_err-write_history-clause-fault : goal.returns-in_err-write_history-clause-fault
returns-in_err-write_history-clause-fault c =
    let p = err_from_is_err_and c.from_residual-in_err-write_history.result c.from_residual-in_err-write_history.ensures.1 in
    rw (p.1, p.2) (c.in_ok-history.history.recorded, BeginsWith-whole c.args.text.now c.in_ok-history.history.recorded c.in_ok-history.ensures.found)
