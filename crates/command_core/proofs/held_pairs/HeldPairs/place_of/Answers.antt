use Rattle.command_core.proofs.Common.{◌∙◌, false≢true, sym}
use Rattle.command_core.specs.Pairs.{pair_cells}
use Rattle.command_core.proofs.Pairs.{is_held-no_place}
use Rattle.command_core.proofs.held_pairs.HeldPairs.place_of.Goals as goal

pub unreachable-requires : goal.unreachable-requires
unfolding pair_cells
unreachable-requires c =
    let s = c.args.self.now in
    let none = is_held-no_place s.granules.items s.cells.items c.args.pa s.same_count (sym c.find.ensures ∙ c.in_default.is) in
    false≢true (sym none ∙ c.requires)
