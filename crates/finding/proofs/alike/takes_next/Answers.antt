-- A call that was made by the first return may come next.
use Rattle.std.proofs.Common.{arith, rules}
use Rattle.finding.proofs.Common.{state_of}
use Rattle.finding.proofs.Attempts.{pending_at}
use Rattle.finding.proofs.BegunLaws.{MayCome-pending, MayCome-returned}
use Rattle.finding.proofs.NextLines.{IsSoon-called}
use Rattle.finding.proofs.alike.takes_next.Goals as goal

pub grow-requires-clause-next : goal.grow-requires-clause-next
grow-requires-clause-next c =
    let next = c.in-Some-next.ensures.next.0 in
    MayCome-returned c.args.history.now.recorded c.args.begun.now.front.counts (state_of c.args.begun.now.machine) c.in-Some-next.choice
    c.with_its_reply.result c.with_its_reply.ensures.choice c.with_its_reply.ensures.line next (search rules)
    (IsSoon-called c.args.history.now.recorded c.requires.begun.front.is_history c.args.begun.now c.in-Some.first c.in-Some.ensures.least 0
    c.in-Some-next.choice next (omega (arith, c.rank.ensures.rank, c.if-rank-choice.false)))

pub grow-requires-in-Some-claim_of-clause-next : goal.grow-requires-in-Some-claim_of-clause-next
grow-requires-in-Some-claim_of-clause-next c =
    let history = c.args.history.now.recorded in
    let choice = c.in-Some-next.choice in
    let next = c.in-Some-next.ensures.next.0 in
    MayCome-pending history c.args.begun.now.front.counts (state_of c.args.begun.now.machine) choice c.in-Some-claim_of.reply.now
    c.with_claim.result c.with_claim.ensures.choice c.with_claim.ensures.line next (pending_at history choice next.places (search rules))
    (IsSoon-called history c.requires.begun.front.is_history c.args.begun.now c.in-Some.first c.in-Some.ensures.least 0
    choice next (omega (arith, c.rank.ensures.rank, c.if-rank-choice.false)))
