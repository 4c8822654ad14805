use Rattle.std.proofs.Common.{ap, ◌∙◌}
use Rattle.spec_machine.specs.GranulePlace.{place_by, place_in}
use Rattle.spec_machine.proofs.granule_places.GranulePlaces.copy.Goals as goal

pub returns-clause-places : goal.returns-clause-places
unfolding place_in
returns-clause-places c =
    let places = c.args.self.now in
    ap (place_by places.near places.granules) (c.in_ok-starts.ensures ∙ c.as_slice.ensures.value)
