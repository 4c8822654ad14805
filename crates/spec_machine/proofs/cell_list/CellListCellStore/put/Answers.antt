use Rattle.spec_machine.proofs.Common.{◌∙◌, ap, cells_of, put}
use Rattle.granule_cells.specs.Seen.{cell_of}
use Rattle.spec_machine.proofs.OneChanged.{place-cell, place-changed}
use Rattle.spec_machine.proofs.cell_list.CellListCellStore.put.Goals as goal

pub returns-clause-cells : goal.returns-clause-cells
unfolding cells_of
returns-clause-cells c =
    let cell = cell_of c.args.cell in
    place-changed c.made_place-place.new.self c.args.granule _ c.put.new.self (λ _. cell) c.made_place-place.ensures.place c.put.ensures.put
    ∙ ap (λ cells. put cells c.args.granule cell) c.made_place-place.ensures.cells

pub returns-clause-given : goal.returns-clause-given
returns-clause-given c =
    let made = c.made_place-place.ensures in
    c.put.ensures.given ∙ place-cell c.made_place-place.new.self c.args.granule _ made.place ∙ ap (λ cells. cells c.args.granule) made.cells
