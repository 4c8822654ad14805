-- No granule has two tables.
use Rattle.rmm_spec.specs.TableCells.{ArePlaced}
use Rattle.rtt_table.specs.PlainLaws.{cells_from-are_placed}
use Rattle.spec_machine.specs.declared.cell_list.CellList.{CellList}
use Rattle.spec_machine.specs.Whole.{table_numbered, tables_in, values_below}

pub tables_in-placed : (list : CellList) → ArePlaced (tables_in list)
unfolding tables_in
tables_in-placed list = cells_from-are_placed 0 (values_below list.config.granules (table_numbered list))
