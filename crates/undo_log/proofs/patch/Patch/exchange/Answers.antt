use Rattle.std.proofs.Common.{ap, subst, sym, ◌∙◌}
use Rattle.std.proofs.lemmas.List.{with_items_is}
use Rattle.undo_log.specs.Patches.{IsWhole, patched, put_all, standing_in}
use Rattle.undo_log.proofs.Patched.{all_there}
use Rattle.undo_log.proofs.patch.Patch.exchange.Goals as goal

pub invariant_of-machine : goal.invariant_of-machine
unfolding patched
invariant_of-machine c =
    let each = c.as_mut_slice.ensures.value ∙ c.reverse.ensures.items in
    let there = all_there c.args.self.now.items.items _ _ _ each c.exchange_each.ensures.there in
    record { shaped = subst IsWhole (sym there) c.requires }

pub returns-clause-there : goal.returns-clause-there
unfolding patched
returns-clause-there c =
    all_there c.args.self.now.items.items _ _ _ (c.as_mut_slice.ensures.value ∙ c.reverse.ensures.items) c.exchange_each.ensures.there

pub returns-clause-back : goal.returns-clause-back
unfolding patched
returns-clause-back c =
    let each = c.exchange_each.new in
    let kept = with_items_is c.reverse.new.self each.items (c.exchange_each.auto.items ∙ c.as_mut_slice.ensures.len) in
    ap (λ items. put_all items (standing_in each.granules)) kept ∙ c.exchange_each.ensures.back
