use Rattle.std.proofs.Common.{ap, sym, ◌∙◌}
use Rattle.rmm_spec.specs.Cell as spec
use Rattle.spec_machine.proofs.OneChanged.{place-cell}
use Rattle.spec_machine.proofs.cell_list.CellList.table_in.Goals as goal

pub returns-in-Some : goal.returns-in-Some
returns-in-Some c = c.table.ensures ∙ ap spec.table_in (place-cell c.args.self.now c.args.address c.in-Some.place c.in-Some.ensures.some)

pub returns-in-None : goal.returns-in-None
returns-in-None c = ap spec.table_in (sym c.in-None.ensures.none)
