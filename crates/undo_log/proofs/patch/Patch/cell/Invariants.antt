-- None of the items so far puts a cell in the granule.
use Rattle.std.proofs.Common.{◌≡◌, drop}
use Rattle.undo_log.specs.Patches.{Standing}
use Rattle.undo_log.specs.PatchKeys.{cell_after}
use Rattle.undo_log.proofs.patch.Patch.cell.Given as goal

abbrev pub invariant-loop-item : goal.invariant-loop-item
invariant-loop-item l = (s : Standing) → cell_after (drop l.item-index l.self.items.items) s l.granule ≡ cell_after l.self.items.items s l.granule
