use Rattle.spec_machine.proofs.Common.{◌∙◌, ap, cells_of, sym}
use Rattle.rmm_spec.specs.Cell as spec
use Rattle.spec_machine.proofs.Found.{tables_in-same}
use Rattle.spec_machine.proofs.cell_list.CellListCells.table.Goals as goal

pub returns : goal.returns
returns c =
    let list = c.args.self.now in
    c.table_in.ensures ∙ ap (λ a. spec.tables_of (cells_of list) a) c.address.ensures ∙ sym (tables_in-same list c.args.pa)
