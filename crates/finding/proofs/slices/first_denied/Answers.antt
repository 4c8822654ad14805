-- The first one so far is a place up to which there is no order, and so is one that is earlier.
use Rattle.finding.proofs.slices.first_denied.Goals.{then-is_denied_at, else-is_denied_at}
use Rattle.finding.proofs.slices.first_denied.Goals as goal

pub loop-returned-preserved : goal.loop-returned-preserved
loop-returned-preserved c = elim c.if-is_denied_at.branch [
  | then-is_denied_at w ↦ rw w.first-is (c.is_denied_at.ensures w.if-is_denied_at.true)
  | else-is_denied_at w ↦ rw w.first-is c.loop-returned.invariant
]
