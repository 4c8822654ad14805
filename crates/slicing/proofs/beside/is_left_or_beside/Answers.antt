-- What leaves the fact by itself does so.
use Rattle.std.proofs.Common.{inl, inr}
use Rattle.slicing.proofs.beside.is_left_or_beside.Goals as goal

pub returns-then-is_left_or_early : goal.returns-then-is_left_or_early
returns-then-is_left_or_early c is cpu number command is_called = elim (c.is_left_or_early.ensures is cpu number command is_called) [
  | inl early ↦ inl early
  | inr leaves ↦ inr (inl leaves)
]
