use Rattle.std.proofs.Common.{◌≡◌, Err, ap}
use Rattle.std.proofs.lemmas.Result.{err_from_is_err_and}
use Rattle.history.specs.declared.fault.HistoryFault.TheVariants.{NoMemory}
use Rattle.history.proofs.reading.begin.Goals as goal

pub returns-in_err-read_header-clause-fault : goal.returns-in_err-read_header-clause-fault
returns-in_err-read_header-clause-fault c =
    let p = err_from_is_err_and c.from_residual.result c.from_residual.ensures.1 in
    rw (p.1, p.2) c.in_err-read_header.ensures.fault

pub returns-in_err-read_header-clause-no_memory : goal.returns-in_err-read_header-clause-no_memory
returns-in_err-read_header-clause-no_memory c =
    let p = err_from_is_err_and c.from_residual.result c.from_residual.ensures.1 in
    rw (p.1, p.2) (λ refused.
    let same : c.in_err-read_header.field-0.0 ≡ NoMemory = cc in
    c.in_err-read_header.ensures.no_memory (ap Err same))
