use Rattle.undo_log.proofs.Common.{◌<◌, ◌≡◌, length, subst}
use Rattle.std.specs.Prelude.{get_or}
use Rattle.undo_log.proofs.PatchViews.{cell-found}
use Rattle.undo_log.proofs.patch.Patch.cell.Goals as goal

pub returns-in-Some-clause-some : goal.returns-in-Some-clause-some
returns-in-Some-clause-some c = λ s there.
    let i = c.loop-item.item-index in
    let item = c.item-item.result in
    let all = c.deref-item-items.ensures.value in
    cell-found c.args.self.now.items.items i item s c.args.granule _
    (subst (λ xs. i < length xs) all c.loop-item-test.true) (subst (λ xs. item ≡ get_or xs i item) all c.item-item.is) there
    c.in-Some.ensures.some (c.loop-item.invariant s)
