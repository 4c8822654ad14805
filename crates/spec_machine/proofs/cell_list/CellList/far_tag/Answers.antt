use Rattle.std.proofs.Common.{ap, sym, ◌∙◌}
use Rattle.rmm_spec.specs.Cell.{tag_of}
use Rattle.spec_machine.proofs.OneChanged.{place-cell}
use Rattle.spec_machine.proofs.cell_list.CellList.far_tag.Goals as goal

pub returns-in-Some-clause-tag : goal.returns-in-Some-clause-tag
returns-in-Some-clause-tag c = c.tag.ensures ∙ ap tag_of (place-cell c.args.self.now c.args.address c.in-Some.place c.in-Some.ensures.some)

pub returns-in-None-clause-tag : goal.returns-in-None-clause-tag
returns-in-None-clause-tag c = ap tag_of (sym c.in-None.ensures.none)
