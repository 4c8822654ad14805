use Rattle.undo_log.specs.Patches.{patched, standing_of}
use Rattle.undo_log.proofs.PatchViews.{like-state}
use Rattle.undo_log.proofs.alike.are_like.Goals as goal

pub returns : goal.returns
unfolding patched
returns c = λ all.
    like-state c.args.one.now.items.items c.args.other.now.items.items (standing_of c.args.machine.now) (c.are_alike.ensures all)
