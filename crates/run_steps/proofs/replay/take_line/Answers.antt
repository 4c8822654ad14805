-- What is known of the line's call and of its reply.
use Rattle.std.proofs.Common.{◌≡◌, IsTrue, false, rules}
use Rattle.certificate.specs.LineRef.{line_seen}
use Rattle.spec_machine.specs.View.{state_of}
use Rattle.run_steps.proofs.Taking.{StopsAt-refused, StopsAt-unclaimed, TakesLine-of}
use Rattle.run_steps.proofs.replay.take_line.Goals as goal

pub returns-clause-taken : goal.returns-clause-taken
returns-clause-taken c =
    let given : IsTrue c.in_ok-offer.field-0 = search rules in
    TakesLine-of c.args.history.now.recorded.events (state_of c.args.machine.now)
    (line_seen c.args.line) c.called_by-cpu.result.0 c.called_by-cpu.result.1 c.in-Some.call
    c.in-Some-claimed_by.reply.now c.outcome-outcome.result
    (state_of c.offer.new.self) c.called_by-cpu.ensures.cpu c.called_by-cpu.ensures.number c.in-Some.ensures.some
    c.in-Some-claimed_by.ensures.some c.outcome-outcome.ensures (c.in_ok-offer.ensures.step given)

pub returns-then-not-branch-clause-stops : goal.returns-then-not-branch-clause-stops
returns-then-not-branch-clause-stops c =
    let refused : c.in_ok-offer.field-0 ≡ false = search rules in
    StopsAt-refused c.args.history.now.recorded.events (state_of c.args.machine.now)
    (line_seen c.args.line) c.called_by-cpu.result.0 c.called_by-cpu.result.1 c.in-Some.call
    c.in-Some-claimed_by.reply.now c.called_by-cpu.ensures.cpu c.called_by-cpu.ensures.number c.in-Some.ensures.some c.in-Some-claimed_by.ensures.some
    (c.in_ok-offer.ensures.only refused)

pub returns-in_default-claimed_by-clause-stops : goal.returns-in_default-claimed_by-clause-stops
returns-in_default-claimed_by-clause-stops c =
    StopsAt-unclaimed c.args.history.now.recorded.events (state_of c.args.machine.now)
    (line_seen c.args.line) c.called_by-cpu.result.0 c.called_by-cpu.result.1 c.in-Some.call
    c.called_by-cpu.ensures.cpu c.called_by-cpu.ensures.number c.in-Some.ensures.some c.in_default-claimed_by.ensures.none
