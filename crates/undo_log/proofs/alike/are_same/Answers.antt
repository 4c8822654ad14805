use Rattle.undo_log.specs.Patches.{patched, standing_of}
use Rattle.undo_log.proofs.PatchViews.{same-state}
use Rattle.undo_log.proofs.alike.are_same.Goals as goal

pub returns : goal.returns
unfolding patched
returns c = λ all.
    same-state c.args.one.now.items.items c.args.other.now.items.items (standing_of c.args.machine.now) (c.are_alike.ensures all)
