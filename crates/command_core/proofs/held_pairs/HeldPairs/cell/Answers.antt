use Rattle.command_core.proofs.Common.{◌∙◌, List, ap, sym}
use Rattle.std.specs.Prelude.{get_or}
use Rattle.granule_cells.specs.declared.cell.Cell.{Cell}
use Rattle.command_core.specs.Pairs.{pair_cells}
use Rattle.command_core.proofs.Pairs.{position-first, cell_in-place, cell_in-no_place}
use Rattle.command_core.proofs.held_pairs.HeldPairs.cell.Goals as goal

pub returns-in_err-place : goal.returns-in_err-place
unfolding pair_cells
returns-in_err-place c =
    let s = c.args.self.now in
    rw c.from_residual.ensures
    (sym (cell_in-no_place s.granules.items s.cells.items c.args.pa s.same_count (sym c.find.ensures ∙ c.in_err-place.was)))

pub returns : goal.returns
unfolding pair_cells
returns c =
    let s = c.args.self.now in
    let place = c.in_ok-place.place in
    let found = c.index-deref-place.result in
    let at = c.index-deref-place.is ∙ ap (λ (cells : List Cell). get_or cells place found) c.deref.ensures.0 in
    let first = position-first s.granules.items c.args.pa place (sym c.find.ensures ∙ c.in_ok-place.was) in
    sym (cell_in-place s.granules.items s.cells.items c.args.pa place found s.same_count first at)
