use Rattle.undo_log.proofs.Common.{◌<◌, ◌≡◌, ◌∙◌, ap, length, subst}
use Rattle.std.specs.Prelude.{get_or}
use Rattle.undo_log.specs.Patches.{put_all}
use Rattle.undo_log.proofs.PatchKeys.{put_all-more}
use Rattle.undo_log.proofs.patch.Patch.copy.Goals as goal

pub loop-item-preserved : goal.loop-item-preserved
loop-item-preserved c =
    let i = c.loop-item.item-index in
    let item = c.item-item.result in
    let all = c.deref-item-items.ensures.value in
    ap put_all c.in_ok-push.ensures.items
    ∙ put_all-more c.loop-item.items.items c.args.self.now.items.items i c.in_ok-copy.field-0 item
    (subst (λ xs. i < length xs) all c.loop-item-test.true) (subst (λ xs. item ≡ get_or xs i item) all c.item-item.is)
    c.in_ok-copy.ensures c.loop-item.invariant
