-- A call that may come at once, or that is alone in its group.
use Rattle.finding.proofs.Common.{◌<◌, arith, rank_of}
use Rattle.finding.proofs.NextLines.{IsSoon-called}
use Rattle.finding.proofs.OnlyLaws.{IsFirstGroup-drawn, IsOnly-alone, IsOnly-settled}
use Rattle.finding.proofs.only.next_step.Goals as goal

pub returns-in-Some-settled_choice : goal.returns-in-Some-settled_choice
returns-in-Some-settled_choice c =
    let history = c.args.history.now.recorded in
    let choice = c.in-Some-settled_choice.choice in
    let next = c.in-Some-settled_choice.ensures.next in
    IsOnly-settled history c.requires.begun.front.is_history c.args.begun.now choice c.with_its_reply.result c.with_its_reply.ensures.choice
    c.with_its_reply.ensures.line next
    (IsSoon-called history c.requires.begun.front.is_history c.args.begun.now c.in-Some.first c.in-Some.ensures.least 0 choice next
    (rw c.rank-2.ensures.rank at c.in-Some-settled_choice.ensures.bound))
    c.in-Some-settled_choice.ensures.settled

pub returns-then-is_alone : goal.returns-then-is_alone
returns-then-is_alone c =
    let history = c.args.history.now.recorded in
    let first = c.in-Some.first in
    let group = c.group_at-group.result in
    let same = c.group_at-group.ensures.first in
    let below : rank_of first < 1000000 = omega (arith, c.rank.ensures.rank, c.if-rank-ge-PENDING.false) in
    IsOnly-alone history c.requires.begun.front.is_history c.args.begun.now first c.with_its_reply-then-is_alone.result
    c.with_its_reply-then-is_alone.ensures.choice c.with_its_reply-then-is_alone.ensures.line c.in-Some.ensures.next group same
    (IsFirstGroup-drawn history c.args.begun.now first group same c.in-Some.ensures.next c.in-Some.ensures.least below c.group_at-group.ensures.group)
    (c.is_alone.ensures c.if-is_alone.true)
