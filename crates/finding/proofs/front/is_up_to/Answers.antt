-- No next call returned before the one that is tried first.
use Rattle.finding.proofs.Common.{◌+◌, ◌^◌, arith, rank_of}
use Rattle.std.proofs.lemmas.Bool.{ltb-true}
use Rattle.finding.proofs.TriedLaws.{HasReturned-least}
use Rattle.finding.proofs.front.is_up_to.Goals as goal

pub returns-in-Some : goal.returns-in-Some
returns-in-Some c = λ up.
    let begun = c.requires.begun.1 in
    let below = ltb-true c.args.place c.rank.result up in
    HasReturned-least c.args.history.now.recorded begun.front.is_history begun.lines c.requires.begun.0 begun.holds.reached
    c.args.front.now.counts begun.holds.counts (rank_of c.in-Some.first) (c.args.place + 1) (rw c.in-Some.is at c.first_at.ensures.least)
    (omega (arith, below, c.rank.ensures.rank))

pub returns-in-None : goal.returns-in-None
returns-in-None c = λ _.
    let begun = c.requires.begun.1 in
    HasReturned-least c.args.history.now.recorded begun.front.is_history begun.lines c.requires.begun.0 begun.holds.reached
    c.args.front.now.counts begun.holds.counts (2 ^ 32) (c.args.place + 1) (rw c.in-None.is at c.first_at.ensures.least)
    (omega (arith, c.ranges.place.fits))
