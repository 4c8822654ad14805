use Rattle.std.proofs.Common.{sym, ◌∙◌}
use Rattle.command_core.specs.Pairs.{granules_held-paired, pair_cells}
use Rattle.command_core.proofs.held_pairs.HeldPairs.held.Goals as goal

pub returns : goal.returns
unfolding pair_cells
returns c = let s = c.args.self.now in c.deref.ensures.0 ∙ sym (granules_held-paired s.granules.items s.cells.items s.same_count)
