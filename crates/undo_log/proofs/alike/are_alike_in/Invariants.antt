-- So it is in the granules of the items so far.
use Rattle.std.proofs.Common.{All, take}
use Rattle.undo_log.specs.PatchKeys.{AreAlikeIn}
use Rattle.undo_log.specs.Patches.{standing_of}
use Rattle.undo_log.proofs.alike.are_alike_in.Given as goal

abbrev pub invariant-loop-item : goal.invariant-loop-item
invariant-loop-item l = All (AreAlikeIn l.measured l.one.items.items l.other.items.items (standing_of l.machine)) (take l.item-index l.items)
