-- Where the first part has no order, the events up to the place have none.
use Rattle.std.proofs.Common.{◌+◌, refl}
use Rattle.finding.proofs.Finds.{HasNoneUpTo-nowhere}
use Rattle.finding.proofs.guessed.lost_reading.Goals as goal

pub returns-in-Some-lost : goal.returns-in-Some-lost
returns-in-Some-lost c =
    HasNoneUpTo-nowhere c.args.history.now.recorded c.in-Some.part.recorded c.args.unread.place (c.args.unread.place + 1) refl
    (rw c.in-Some.is at c.in_ok-part.ensures) (rw c.in-Some-lost.is at c.in_ok-lost.ensures)
