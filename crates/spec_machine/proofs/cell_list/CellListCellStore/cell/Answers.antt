use Rattle.spec_machine.proofs.Common.{◌∙◌}
use Rattle.spec_machine.proofs.OneChanged.{place-cell}
use Rattle.spec_machine.proofs.cell_list.CellListCellStore.cell.Goals as goal

pub returns-in-Some : goal.returns-in-Some
returns-in-Some c = c.cell.ensures ∙ place-cell c.args.self.now c.args.granule c.in-Some.place c.in-Some.ensures.some
