-- A function and an answer have one of the places that are counted.
use Rattle.run_steps.proofs.PlaceLaws.{place_below}
use Rattle.run_steps.proofs.places.place_of.Goals as goal

pub returns-clause-within : goal.returns-clause-within
returns-clause-within c =
    place_below c.function_place.result c.refused_place.result c.function_place.ensures.within c.refused_place.ensures.within
