-- Nothing is put in what is no granule.
use Rattle.undo_log.proofs.Common.{◌∙◌, ◌≡◌, Bool, IsTrue, None, Option, Some, false, is_some, sym, ℕ}
use Rattle.std.specs.Prelude.{SomeIff}
use Rattle.std.proofs.lemmas.Bool.{false≢true, false_from_ne_true}
use Rattle.undo_log.specs.Patches.{standing_of}
use Rattle.undo_log.proofs.PatchViews.{cell-nowhere}
use Rattle.undo_log.proofs.alike.cell_after.Goals as goal

no-granule : (o : Option ℕ) (b : Bool) (address : ℕ) → SomeIff o (IsTrue b) address → is_some o ≡ false → b ≡ false
no-granule None b address not none = false_from_ne_true b not
no-granule (Some pa) b address is none = absurd (false≢true (sym none))

pub returns-then-is_none : goal.returns-then-is_none
returns-then-is_none c =
    c.cell.ensures
    ∙ cell-nowhere c.args.patch.now.items.items (standing_of c.args.machine.now) c.args.granule
    (no-granule c.granule_at.result _ c.args.granule c.granule_at.ensures c.if-is_none.ensures)
