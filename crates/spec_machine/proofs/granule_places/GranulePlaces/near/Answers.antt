use Rattle.spec_machine.specs.GranulePlace.{place_in}
use Rattle.spec_machine.proofs.PlaceLaws.{near-place}
use Rattle.spec_machine.proofs.granule_places.GranulePlaces.near.Goals as goal

pub returns : goal.returns
unfolding place_in
returns c number below =
    let places = c.args.self.now in
    near-place places.near places.granules places.starts.items number below
