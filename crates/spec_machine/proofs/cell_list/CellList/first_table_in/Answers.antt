use Rattle.spec_machine.proofs.Common.{◌/◌, ◌∙◌, Some, ap, arith, place-within, sym}
use Rattle.rmm_spec.specs.Cell as spec
use Rattle.spec_machine.proofs.OneChanged.{place-cell}
use Rattle.spec_machine.proofs.PlacedCells.{some-place}
use Rattle.spec_machine.proofs.cell_list.CellList.first_table_in.Goals as goal

pub table-requires : goal.table-requires
table-requires c =
    let list = c.args.self.now in
    let number = c.args.address / 4096 in
    omega (arith, place-within list.places number number (c.near.ensures number (omega (arith, c.if-number-near.false))), list.each)

pub returns-in-Some : goal.returns-in-Some
returns-in-Some c =
    let list = c.args.self.now in
    let number = c.args.address / 4096 in
    let near = c.near.ensures number (omega (arith, c.if-number-near.false)) in
    let is = some-place list c.args.address (Some number) c.if-address-ne0.false (sym near) in
    c.in-Some.ensures ∙ ap spec.table_in (place-cell list c.args.address number is)
