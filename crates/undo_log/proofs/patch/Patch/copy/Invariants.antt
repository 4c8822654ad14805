-- The items so far put the same in.
use Rattle.std.proofs.Common.{◌≡◌, take}
use Rattle.undo_log.specs.Patches.{put_all}
use Rattle.undo_log.proofs.patch.Patch.copy.Given as goal

abbrev pub invariant-loop-item : goal.invariant-loop-item
invariant-loop-item l = put_all l.items.items ≡ put_all (take l.item-index l.self.items.items)
