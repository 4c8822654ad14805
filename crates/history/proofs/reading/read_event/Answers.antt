use Rattle.std.proofs.lemmas.Result.{err_from_is_err_and}
use Rattle.history.proofs.GrammarLaws.{EndsWithEvent-next, IsFaultOf-next, bad_line, full_lines, line_too_many, history_text-line}
use Rattle.history.proofs.reading.read_event.Goals as goal

pub returns-then-not-has_room-clause-fault : goal.returns-then-not-has_room-clause-fault
returns-then-not-has_room-clause-fault c = λ more.
    rw c.len.ensures
    (line_too_many c.args.history.now.recorded c.args.line.now more c.well_formed-fact.ensures
    (full_lines c.args.history.now.recorded c.has_room.result c.well_formed-fact.ensures c.has_room.ensures c.if-not-has_room.true))

pub returns-then-not-branch-clause-fault : goal.returns-then-not-branch-clause-fault
returns-then-not-branch-clause-fault c = λ more.
    rw c.len.ensures
    (bad_line c.args.history.now.recorded c.args.line.now more c.well_formed-fact.ensures c.requires
    (c.in_ok-record_line.ensures.refused c.if-not-branch.true))

pub returns-clause-read : goal.returns-clause-read
returns-clause-read c =
    let done = c.in_ok-record_line.ensures.recorded c.if-not-branch.false in
    rw done.recorded (history_text-line c.args.history.now.recorded done.event c.args.line.now done.is_event)

pub returns-in_err-record_line-clause-fault : goal.returns-in_err-record_line-clause-fault
returns-in_err-record_line-clause-fault c =
    let p = err_from_is_err_and c.from_residual.result c.from_residual.ensures.1 in
    rw (p.1, p.2) (λ more. IsFaultOf-next c.args.history.now.recorded c.args.line.now
    more c.well_formed-fact.ensures c.in_err-record_line.ensures.no_memory)

pub returns-in_err-record_line-clause-memory : goal.returns-in_err-record_line-clause-memory
returns-in_err-record_line-clause-memory c = λ _.
    EndsWithEvent-next c.args.history.now.recorded c.args.line.now c.well_formed-fact.ensures c.in_err-record_line.ensures.no_memory
