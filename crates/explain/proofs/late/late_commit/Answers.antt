-- A line more, after which the condition fails.
use Rattle.explain.proofs.Common.{◌+◌, ◌∙◌, State, ap, line_seen, state_of, sym}
use Rattle.explain.specs.Late.{holds}
use Rattle.explain.proofs.Lates.{fails_moved, moved_on}
use Rattle.explain.proofs.late.late_commit.Goals as goal

pub loop-i-preserved-then-not-branch : goal.loop-i-preserved-then-not-branch
loop-i-preserved-then-not-branch c =
    let events = c.args.history.now.recorded.events in
    let lines = c.args.certificate.now.lines in
    let call = c.args.call.now in
    let here = state_of c.args.machine.now in
    let mid = state_of c.loop-i.moved in
    let moves = c.in_ok-takes.ensures in
    let so_far = c.loop-i.invariant in
    let failed = fails_moved events lines call.cpu call.number c.args.test (c.args.index + 1) so_far.0 here mid so_far.2 in
    let fails = ap (λ (s : State). holds s c.args.test) (moves.kept c.if-not-branch.true) ∙ failed in
    moved_on events lines call.cpu call.number c.args.test c.args.index c.loop-i.i here mid
    (state_of c.takes.new.machine) (line_seen c.line-line.result)
    c.in_ok-takes.field-0 so_far c.line-line.ensures moves fails

pub loop-i-preserved : goal.loop-i-preserved
loop-i-preserved c =
    moved_on c.args.history.now.recorded.events c.args.certificate.now.lines
    c.args.call.now.cpu c.args.call.now.number c.args.test c.args.index c.loop-i.i
    (state_of c.args.machine.now) (state_of c.loop-i.moved) (state_of c.takes.new.machine) (line_seen c.line-line.result)
    c.in_ok-takes.field-0 c.loop-i.invariant c.line-line.ensures c.in_ok-takes.ensures (sym c.if-is_holding.ensures)
