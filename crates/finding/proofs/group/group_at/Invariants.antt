-- The call that returned first is inside.
use Rattle.std.proofs.Common.{◌≡◌, true}
use Rattle.finding.specs.Group.{is_inside}
use Rattle.finding.proofs.group.group_at.Given as goal

abbrev pub invariant-drawn : goal.invariant-drawn
invariant-drawn l = record { first : l.group.first ≡ l.first; inside : is_inside l.group l.first.cpu ≡ true }
