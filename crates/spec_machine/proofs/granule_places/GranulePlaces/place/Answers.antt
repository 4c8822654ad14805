use Rattle.std.proofs.Common.{sym}
use Rattle.spec_machine.specs.GranulePlace.{place_in}
use Rattle.spec_machine.proofs.PlaceLaws.{near-place}
use Rattle.spec_machine.proofs.granule_places.GranulePlaces.place.Goals as goal

pub returns-then-number-self : goal.returns-then-number-self
unfolding place_in
returns-then-number-self c =
    let places = c.args.self.now in
    sym (near-place places.near places.granules places.starts.items c.args.number c.if-number-self.true)
