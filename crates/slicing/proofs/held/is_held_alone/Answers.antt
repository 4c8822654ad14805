-- Without a call that makes it, no call is later than that.
use Rattle.std.proofs.Common.{inl, inr, refl, sym}
use Rattle.slicing.proofs.held.is_held_alone.Goals as goal

pub returns-then-are_left : goal.returns-then-are_left
returns-then-are_left c is =
    inl (
      sym c.if-begins.ensures,
      λ at cpu number command is_called.
          elim (c.if-are_left.ensures refl at cpu number command is_called) [ inl later ↦ absurd later | inr left ↦ left ],
    )
