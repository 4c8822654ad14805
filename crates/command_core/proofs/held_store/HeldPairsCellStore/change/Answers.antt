use Rattle.std.proofs.Common.{◌∙◌, subst, sym}
use Rattle.granule_cells.specs.OneCell.{FitsCell}
use Rattle.command_core.specs.Pairs.{pair_cells}
use Rattle.command_core.proofs.InPlace.{none-changed, place-changed, place-kept, place-known}
use Rattle.command_core.proofs.held_store.HeldPairsCellStore.change.Goals as goal

pub returns-in_default-clause-cells : goal.returns-in_default-clause-cells
returns-in_default-clause-cells c =
    none-changed c.args.self.now c.new.result c.args.granule c.new.ensures c.args.change (sym c.find.ensures ∙ c.in_default.is)

pub change_cell-requires : goal.change_cell-requires
change_cell-requires c =
    let known = place-known c.args.self.now c.new.result c.args.granule c.new.ensures c.in-Some.place (sym c.in-Some.ensures)
    c.deref_mut.result.now c.deref_mut.ensures.value c.index-deref_mut-place.result c.index-deref_mut-place.result c.index-deref_mut-place.is in
    subst (λ cell. FitsCell cell c.args.change) known c.requires

pub returns-clause-kept : goal.returns-clause-kept
unfolding pair_cells
returns-clause-kept c =
    place-kept c.args.self.now c.new.result c.args.granule c.new.ensures c.in-Some.place (sym c.in-Some.ensures) c.deref_mut.result.now
    c.deref_mut.ensures.value c.index-deref_mut-place.result c.change_cell.new.cell

pub returns-clause-cells : goal.returns-clause-cells
unfolding pair_cells
returns-clause-cells c =
    place-changed c.args.self.now c.new.result c.args.granule c.new.ensures c.in-Some.place (sym c.in-Some.ensures) c.deref_mut.result.now
    c.deref_mut.ensures.value c.index-deref_mut-place.result c.change_cell.new.cell c.index-deref_mut-place.is
    c.args.change c.change_cell.ensures
