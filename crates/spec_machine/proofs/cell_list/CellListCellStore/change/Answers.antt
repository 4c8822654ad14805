use Rattle.spec_machine.proofs.Common.{cells_of, subst, sym}
use Rattle.granule_cells.specs.OneCell.{FitsCell, cell_changed}
use Rattle.spec_machine.proofs.OneChanged.{place-cell, place-changed}
use Rattle.spec_machine.proofs.cell_list.CellListCellStore.change.Goals as goal

pub change-requires-clause-fits : goal.change-requires-clause-fits
change-requires-clause-fits c =
    subst (λ cell. FitsCell cell c.args.change) (sym (place-cell c.args.self.now c.args.granule c.in-Some.place c.in-Some.ensures.some)) c.requires

pub returns-clause-cells : goal.returns-clause-cells
unfolding cells_of
returns-clause-cells c =
    place-changed c.args.self.now c.args.granule c.in-Some.place c.change.new.self (cell_changed c.args.change)
    c.in-Some.ensures.some c.change.ensures
