use Rattle.std.proofs.Common.{◌≤◌, ◌-◌, length}
use Rattle.rmi_codec.proofs.NumberLaws.{SpellsSoFar}
use Rattle.rmi_codec.proofs.numeral.longer_prefix.Given as goal

abbrev pub invariant-loop-end : goal.invariant-loop-end
invariant-loop-end l = record {
  so_far : SpellsSoFar l.base l.line l.end l.number;
  inside : l.end ≤ length l.line;
  within : l.number ≤ l.most;
}

abbrev pub decreases-loop-end : goal.decreases-loop-end
decreases-loop-end l = length l.line - l.end
