-- Each so far passes.
use Rattle.std.proofs.Common.{take}
use Rattle.spec_machine.specs.View.{state_of}
use Rattle.reasons.specs.Law.{AllPass}
use Rattle.reasons.proofs.deciding.first_of.Given as goal

abbrev pub invariant-loop-i : goal.invariant-loop-i
invariant-loop-i l = AllPass (state_of l.machine) (take l.i l.list)
