use Rattle.std.proofs.Common.{◌≡◌, replicate, rules, ap, ◌∙◌}
use Rattle.granule_cells.specs.declared.cpu_place.CpuPlace.TheVariants.{Outside}
use Rattle.spec_machine.specs.Whole.{places_of, places_in}
use Rattle.spec_machine.proofs.Opening.{places-new}
use Rattle.spec_machine.proofs.places.Places.new.Goals as goal

pub returns : goal.returns
unfolding places_of
returns c =
    let places : c.in_ok-places.places.items ≡ replicate 256 Outside = c.in_ok-places.ensures.items_if_clones_equal (search rules) in
    ap places_in places ∙ places-new 256
