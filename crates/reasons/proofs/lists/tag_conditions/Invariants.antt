-- The names so far.
use Rattle.std.proofs.Common.{◌≡◌, map, take}
use Rattle.reasons.specs.Lists as spec
use Rattle.reasons.proofs.lists.tag_conditions.Given as goal

abbrev pub invariant-loop-i : goal.invariant-loop-i
invariant-loop-i l = l.list.items ≡ map spec.tag_condition (take l.i l.names)
