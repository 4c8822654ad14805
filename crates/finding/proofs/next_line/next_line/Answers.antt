-- None is left, or a call can't come next, or this one can.
use Rattle.std.proofs.Common.{◌^◌, ◌∙◌, arith, sym}
use Rattle.finding.specs.Group.{is_inside}
use Rattle.finding.proofs.NextLines.{GoesBehind-late, GoesBehind-outside, IsNextLine-none, IsSoon-called, MayStand-kept}
use Rattle.finding.proofs.Growing.{rank_of_next}
use Rattle.finding.proofs.next_line.next_line.Goals as goal

pub returns-in_default : goal.returns-in_default
returns-in_default c =
    IsNextLine-none c.args.history.now.recorded c.requires.begun.front.is_history
    c.args.begun.now (is_inside c.args.group) c.args.left c.args.group.first c.requires.group.first c.requires.group.least
    c.requires.group.returned c.requires.group.group (2 ^ 32) c.in_default.ensures.least (omega arith)

pub returns-then-rank-choice : goal.returns-then-rank-choice
returns-then-rank-choice c =
    GoesBehind-late c.args.history.now.recorded c.requires.begun.front.is_history
    c.args.begun.now (is_inside c.args.group) c.args.left c.args.group.first c.requires.group.first c.requires.group.least
    c.requires.group.returned c.in-Some.choice c.in-Some.ensures.next c.in-Some.ensures.least
    (omega (arith, c.rank.ensures.rank, c.if-rank-choice.true))
    c.behind.result c.behind.ensures.from c.behind.ensures.above

pub behind-requires-in-Some-returned : goal.behind-requires-in-Some-returned
behind-requires-in-Some-returned c =
    rank_of_next c.args.history.now.recorded c.requires.begun.front.is_history
    c.args.begun.now.front.counts c.args.left.from c.in-Some.choice c.in-Some.ensures.next

pub pending_line-requires-clause-soon : goal.pending_line-requires-clause-soon
pending_line-requires-clause-soon c =
    IsSoon-called c.args.history.now.recorded c.requires.begun.front.is_history
    c.args.begun.now c.args.group.first c.requires.group.least c.args.left.from c.in-Some.choice
    c.in-Some.ensures.next (omega (arith, c.rank.ensures.rank, c.if-rank-choice.false))

pub returns-in-Some-returned : goal.returns-in-Some-returned
returns-in-Some-returned c =
    let history = c.args.history.now.recorded in
    let soon =
    IsSoon-called history c.requires.begun.front.is_history c.args.begun.now c.args.group.first c.requires.group.least c.args.left.from
    c.in-Some.choice c.in-Some.ensures.next (omega (arith, c.rank.ensures.rank, c.if-rank-choice.false)) in
    MayStand-kept history c.requires.begun.front.is_history c.args.begun.now
    (is_inside c.args.group) c.args.left c.in-Some.choice c.in-Some.ensures.next c.in-Some.ensures.least soon
    _ c.in-Some-returned.is _ c.behind-in-Some-returned.ensures.from c.behind-in-Some-returned.ensures.above

pub returns-then-not-has : goal.returns-then-not-has
returns-then-not-has c =
    GoesBehind-outside c.args.history.now.recorded c.requires.begun.front.is_history c.args.begun.now (is_inside c.args.group) c.args.left
    c.in-Some.choice c.in-Some.ensures.next c.in-Some.ensures.least (sym c.has.ensures ∙ c.if-not-has.true) c.behind-then-not-has.result
    c.behind-then-not-has.ensures.from c.behind-then-not-has.ensures.above
