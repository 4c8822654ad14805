-- CPU by CPU.
use Rattle.std.proofs.Common.{◌∙◌, sym}
use Rattle.std.specs.Cmp.{booleans_Decides}
use Rattle.std.specs.Cmp.Lexicographic.{pointwise_decides}
use Rattle.registers.proofs.same.same_places.Goals as goal

pub returns : goal.returns
returns c = λ same. (pointwise_decides booleans_Decides _ _).0 (sym c.eq.ensures ∙ same)
