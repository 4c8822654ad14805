-- No line is left, or the next one.
use Rattle.finding.specs.Group.{is_inside}
use Rattle.finding.proofs.NextLines.{GoesBehind-pending, MayStand-pending}
use Rattle.finding.proofs.next_line.pending_line.Goals as goal

pub returns-in-None : goal.returns-in-None
returns-in-None c =
    GoesBehind-pending c.args.history.now.recorded c.requires.begun.front.is_history
    c.args.begun.now (is_inside c.args.group) c.args.left c.args.choice c.requires.next c.requires.least
    c.requires.soon c.above_for-above.result c.above_for-above.ensures c.requires.inside
    c.in-None.ensures.tried c.behind.result c.behind.ensures.from c.behind.ensures.above

pub returns-in-Some : goal.returns-in-Some
returns-in-Some c =
    MayStand-pending c.args.history.now.recorded c.requires.begun.front.is_history
    c.args.begun.now (is_inside c.args.group) c.args.left c.args.choice c.requires.next c.requires.least
    c.requires.soon c.above_for-above.result c.above_for-above.ensures c.requires.inside
    c.requires.pending c.in-Some.field-0 c.in-Some.ensures.tried c.in-Some.ensures.line
