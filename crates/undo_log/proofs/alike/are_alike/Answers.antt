use Rattle.undo_log.proofs.Common.{refl, subst}
use Rattle.std.specs.Prelude.{All}
use Rattle.undo_log.specs.Patches.{standing_of}
use Rattle.undo_log.specs.PatchKeys.{AreAlikeIn}
use Rattle.undo_log.proofs.PatchViews.{alike-everywhere}
use Rattle.undo_log.proofs.alike.are_alike.Goals as goal

pub returns-then-are_alike_in : goal.returns-then-are_alike_in
returns-then-are_alike_in c = λ all.
    let a = c.args in
    let s = standing_of a.machine.now in
    let one = a.one.now.items.items in
    let other = a.other.now.items.items in
    let Alike = All (AreAlikeIn a.measured one other s) in
    alike-everywhere a.measured one other s (subst Alike c.as_slice.ensures.value (c.if-are_alike_in.ensures refl))
    (subst Alike c.as_slice-then-are_alike_in.ensures.value (c.are_alike_in-then-are_alike_in.ensures all))
