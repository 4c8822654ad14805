-- Up to the last event that is looked at.
use Rattle.std.proofs.Common.{◌≡◌, arith, length, min, subst}
use Rattle.finding.specs.Begun.{AllReturned}
use Rattle.finding.proofs.forward.forward.Goals as goal

pub returns : goal.returns
returns g c =
    let history = c.args.history.now.recorded in
    let same : c.places.place ≡ min c.args.bounds.until (length history.events) =
    omega (arith, c.places-test.false, c.places.invariant.within, c.end_of-until.ensures) in
    subst (AllReturned history c.places.kept.begun.items) same c.places.invariant.returned
