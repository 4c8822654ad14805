-- CPU by CPU.
use Rattle.spec_machine.specs.View.{state_of}
use Rattle.finding.specs.Group.{PassesInside, is_inside}
use Rattle.finding.proofs.group.passes_inside.Given as goal

abbrev pub invariant-loop-other : goal.invariant-loop-other
invariant-loop-other l = PassesInside l.calls (state_of l.machine) (is_inside l.group) l.cpu l.other
