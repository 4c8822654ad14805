-- CPU by CPU.
use Rattle.finding.specs.Group.{IsNamedAlone}
use Rattle.finding.proofs.last.is_named_alone.Given as goal

abbrev pub invariant-loop-other : goal.invariant-loop-other
invariant-loop-other l = IsNamedAlone l.calls l.cpu l.next l.other
