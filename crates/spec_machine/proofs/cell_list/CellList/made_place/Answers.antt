use Rattle.spec_machine.proofs.Common.{◌/◌, arith, place-within}
use Rattle.spec_machine.proofs.cell_list.CellList.made_place.Goals as goal

pub returns-then-number-near-clause-place : goal.returns-then-number-near-clause-place
returns-then-number-near-clause-place c =
    let list = c.args.self.now in
    let number = c.args.granule / 4096 in
    let at = c.near.ensures number c.if-number-near.true in
    record {
      granule = c.requires;
      at = at;
      within = omega (arith, place-within list.places number number at, list.each);
    }
