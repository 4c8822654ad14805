-- The CPUs so far that are outside pass those inside.
use Rattle.spec_machine.specs.View.{state_of}
use Rattle.finding.specs.Group.{PassInside, is_inside}
use Rattle.finding.proofs.group.drawn_in.Given as goal

abbrev pub invariant-loop-cpu : goal.invariant-loop-cpu
invariant-loop-cpu l = PassInside l.calls (state_of l.machine) (is_inside l.group) l.cpu
