use Rattle.std.proofs.Common.{◌≡◌, List, Some, length, get_or, sym, ap, ◌∙◌}
use Rattle.std.specs.Prelude.{slice_set}
use Rattle.std.proofs.lemmas.List.{length-set}
use Rattle.arrayvec.proofs.ArrayVecLemmas.{items-with_items}
use Rattle.world_laws.specs.Replaced.{replaced_cells}
use Rattle.command_core.specs.Seen.{cell_of}
use Rattle.granule_cells.specs.declared.cell.Cell.{Cell}
use Rattle.command_core.specs.Pairs.{paired, pair_cells}
use Rattle.command_core.proofs.Pairs.{position-first, cell_in-place, paired-slice_set}
use Rattle.command_core.proofs.held_pairs.HeldPairs.swap.Goals as goal

pub returns-clause-cells : goal.returns-clause-cells
unfolding pair_cells
returns-clause-cells c =
    let s = c.args.self.now in
    let place = c.place_of-place.result in
    let before = c.deref_mut.ensures.value in
    let written : List Cell = slice_set c.deref_mut.result.now place c.replace.new.dest in
    let same : length written ≡ length s.cells.items =
    length-set c.deref_mut.result.now place c.replace.new.dest ∙ ap (λ (cells : List Cell). length cells) before in
    let first = position-first s.granules.items c.args.pa place c.place_of-place.ensures in
    ap (λ (cells : List Cell). paired s.granules.items cells)
    (items-with_items s.cells written same ∙ ap (λ (cells : List Cell). slice_set cells place c.replace.new.dest) before)
    ∙ paired-slice_set s.granules.items s.cells.items c.args.pa place c.replace.new.dest s.same_count first s.distinct
    ∙ ap (λ (cell : Cell). replaced_cells (pair_cells s) c.args.pa (cell_of cell)) c.replace.ensures.after

pub returns-clause-given : goal.returns-clause-given
unfolding pair_cells
returns-clause-given c =
    let s = c.args.self.now in
    let place = c.place_of-place.result in
    let found = c.index-deref_mut-place.result in
    let at = c.index-deref_mut-place.is ∙ ap (λ (cells : List Cell). get_or cells place found) c.deref_mut.ensures.value in
    let first = position-first s.granules.items c.args.pa place c.place_of-place.ensures in
    cell_in-place s.granules.items s.cells.items c.args.pa place found s.same_count first at
    ∙ ap (λ (cell : Cell). Some (cell_of cell)) (c.index-deref_mut-place.is ∙ sym c.replace.ensures.value)
