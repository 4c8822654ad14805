use Rattle.check_command.proofs.Judged.{passed_on, unread_refused}
use Rattle.check_command.proofs.judgement.bad_history.Goals as goal

pub returns-in-Ok-clause-whole : goal.returns-in-Ok-clause-whole
returns-in-Ok-clause-whole g c =
    let read = c.in-Ok.ensures.read in
    (read.0, record { given = read.1.0; whole = read.1.1.0 })

pub returns-in-Err-clause-memory : goal.returns-in-Err-clause-memory
returns-in-Err-clause-memory g c = λ same. unread_refused _ _ _ _ _
    (c.read_certificate.ensures.memory (passed_on c.read_certificate.result c.in-Err.fault c.in-Err.is same))
