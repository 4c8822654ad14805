use Rattle.spec_machine.proofs.PlacedCells.{none-place, some-place}
use Rattle.spec_machine.proofs.cell_list.CellList.far_place.Goals as goal

pub returns-clause-some : goal.returns-clause-some
returns-clause-some c = some-place c.args.self.now c.args.address c.place.result c.requires c.place.ensures

pub returns-clause-none : goal.returns-clause-none
returns-clause-none c = none-place c.args.self.now c.args.address c.place.result c.place.ensures
