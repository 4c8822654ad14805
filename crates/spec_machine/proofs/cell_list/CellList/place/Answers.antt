use Rattle.spec_machine.proofs.Common.{◌/◌, Some, cells_of, place_in, sym}
use Rattle.spec_machine.proofs.Kept.{cells_in-between}
use Rattle.spec_machine.proofs.PlacedCells.{some-place}
use Rattle.spec_machine.proofs.cell_list.CellList.place.Goals as goal

pub returns-then-address-ne0-clause-none : goal.returns-then-address-ne0-clause-none
unfolding cells_of
returns-then-address-ne0-clause-none c =
    let list = c.args.self.now in
    cells_in-between list.config.granules (place_in list.places) list.cells.items c.args.address c.if-address-ne0.true

pub returns-then-number-near-clause-some : goal.returns-then-number-near-clause-some
returns-then-number-near-clause-some c =
    let number = c.args.address / 4096 in
    some-place c.args.self.now c.args.address (Some number) c.if-address-ne0.false (sym (c.near.ensures number c.if-number-near.true))
