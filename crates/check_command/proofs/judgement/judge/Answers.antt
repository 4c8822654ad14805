use Rattle.std.proofs.Common.{refl}
use Rattle.check_command.proofs.Judged.{IsJudgement-unread, IsJudgement-written}
use Rattle.check_command.proofs.judgement.judge.Goals as goal

pub returns-in-Ok : goal.returns-in-Ok
returns-in-Ok g c =
    let read = c.in-Ok.ensures in
    let wrote = c.write_verdict.ensures in
    IsJudgement-written _ _ _ c.in-Ok.verdict c.write_verdict.result read.ends.0 read.ends.1 read.history_read read.certificate_read read.judged
    read.history_failures read.certificate_failures wrote.same wrote.ok wrote.held
    wrote.torn wrote.full wrote.silent wrote.untouched wrote.failures wrote.faults

pub returns-in-Err : goal.returns-in-Err
returns-in-Err g c =
    let read = c.in-Err.ensures in
    IsJudgement-unread _ _ _ c.in-Err.fault read.order read.history_read read.certificate_read read.unwritten read.memory read.history_failures
    read.certificate_failures refl refl refl
