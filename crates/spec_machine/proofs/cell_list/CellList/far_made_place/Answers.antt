use Rattle.spec_machine.proofs.Common.{◌/◌, ◌∙◌, ◌≡◌, Some, arith, place-within, place_in, sym}
use Rattle.spec_machine.proofs.cell_list.CellList.far_made_place.Goals as goal

pub returns-in-Some-clause-place : goal.returns-in-Some-clause-place
returns-in-Some-clause-place c =
    let list = c.args.self.now in
    let at : place_in list.places (c.args.granule / 4096) ≡ Some c.in-Some.place = sym c.place.ensures ∙ c.in-Some.is in
    record {
      granule = c.requires;
      at = at;
      within = omega (arith, place-within list.places (c.args.granule / 4096) c.in-Some.place at, list.each);
    }
