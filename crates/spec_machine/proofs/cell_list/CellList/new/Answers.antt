use Rattle.spec_machine.proofs.Common.{cells_of, place_in}
use Rattle.spec_machine.proofs.Opening.{cells-new}
use Rattle.spec_machine.proofs.cell_list.CellList.new.Goals as goal

pub returns-clause-cells : goal.returns-clause-cells
unfolding cells_of
returns-clause-cells c =
    cells-new c.args.config.granules c.count.result (place_in c.in_ok-places.places) c.in_ok-cells.cells.items c.in_ok-cells.ensures.items
