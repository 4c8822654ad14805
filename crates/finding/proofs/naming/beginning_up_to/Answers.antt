-- Where the first part has no order, the events up to the place have none.
use Rattle.std.proofs.Common.{◌+◌, refl}
use Rattle.finding.proofs.Finds.{HasNoneUpTo-nowhere}
use Rattle.finding.proofs.naming.beginning_up_to.Goals as goal

pub returns-in-Lost : goal.returns-in-Lost
returns-in-Lost g c =
    HasNoneUpTo-nowhere c.args.history.now.recorded c.in-Some.part.recorded c.args.place (c.args.place + 1) refl
    (rw c.in-Some.is at c.in_ok-part.ensures) (rw c.in-Lost.is at c.in_ok-answer.ensures)
