-- Item by item.
use Rattle.std.proofs.Common.{All, refl, subst}
use Rattle.std.proofs.lemmas.List.{take_all}
use Rattle.std.proofs.lemmas.List.Elements.{All-more}
use Rattle.undo_log.specs.PatchKeys.{AreAlikeIn}
use Rattle.undo_log.specs.Patches.{standing_of}
use Rattle.undo_log.proofs.alike.are_alike_in.Goals as goal

pub loop-item-preserved : goal.loop-item-preserved
loop-item-preserved c =
    let a = c.args in
    let Alike = AreAlikeIn a.measured a.one.now.items.items a.other.now.items.items (standing_of a.machine.now) in
    All-more Alike a.items.now c.loop-item.item-index c.item-item.result c.loop-item-test.true c.loop-item.invariant
    (subst Alike c.item-item.is (c.if-not-is_alike_in.ensures refl))

pub returns : goal.returns
returns c = λ all.
    let a = c.args in
    subst (All (AreAlikeIn a.measured a.one.now.items.items a.other.now.items.items (standing_of a.machine.now)))
    (take_all c.loop-item.item-index a.items.now c.loop-item-test.false) c.loop-item.invariant
