-- The line is known, of its kind, and given.
use Rattle.explain.proofs.Common.{cpu_named, line_seen, number_named, state_of}
use Rattle.rmi_view.specs.Seen.{command_seen, reply_seen}
use Rattle.spec_lemmas.proofs.Calls.{told_at_call}
use Rattle.explain.proofs.Replaying.{Passes-taken, line_of_its_kind, not-refused}
use Rattle.explain.proofs.replay.take_line.Goals as goal

pub claimed_reply-reply-requires-clause-kind : goal.claimed_reply-reply-requires-clause-kind
claimed_reply-reply-requires-clause-kind c =
    line_of_its_kind c.args.history.now.recorded c.well_formed-fact.ensures c.args.certificate.now.lines c.args.i
    (line_seen c.line-line.result) c.line-line.ensures
    c.requires.passing (state_of c.args.machine.now) c.requires.before

pub unreachable-requires-then-not-given : goal.unreachable-requires-then-not-given
unreachable-requires-then-not-given c =
    let line = line_seen c.line-line.result in
    let events = c.args.history.now.recorded.events in
    let made = rw (c.called_by-cpu.ensures.cpu, c.called_by-cpu.ensures.number) at c.in-Some.ensures.some.called in
    let is_called = told_at_call events c.in-Some.places.called (cpu_named line) (number_named line)
    (command_seen c.in-Some-command_at.command) made c.in-Some-command_at.ensures.some in
    let refuses = c.in_ok-given.ensures.only c.if-not-given.true in
    not-refused c.args.history.now.recorded c.well_formed-fact.ensures
    c.args.certificate.now.lines c.args.i line c.line-line.ensures c.requires.passing
    (state_of c.args.machine.now) c.requires.before c.in-Some.places.called
    (command_seen c.in-Some-command_at.command) (reply_seen c.claimed_reply-reply.result)
    is_called c.claimed_reply-reply.ensures (rw c.called_by-cpu.ensures.cpu at refuses)

pub returns : goal.returns
returns c =
    let line = line_seen c.line-line.result in
    let events = c.args.history.now.recorded.events in
    let made = rw (c.called_by-cpu.ensures.cpu, c.called_by-cpu.ensures.number) at c.in-Some.ensures.some.called in
    let is_called = told_at_call events c.in-Some.places.called (cpu_named line) (number_named line)
    (command_seen c.in-Some-command_at.command) made c.in-Some-command_at.ensures.some in
    let step = c.in_ok-given.ensures.step c.if-not-given.false in
    Passes-taken c.args.history.now.recorded c.well_formed-fact.ensures
    c.args.certificate.now.lines c.args.i line c.line-line.ensures c.requires.passing
    (state_of c.args.machine.now) c.requires.before c.in-Some.places.called
    (command_seen c.in-Some-command_at.command) (reply_seen c.claimed_reply-reply.result)
    _ is_called c.claimed_reply-reply.ensures (rw c.called_by-cpu.ensures.cpu at step)
