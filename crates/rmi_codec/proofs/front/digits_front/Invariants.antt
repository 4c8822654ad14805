use Rattle.std.proofs.Common.{◌<◌, ◌≤◌, ◌-◌, ◌^◌}
use Rattle.rmi_codec.proofs.NumberLaws.{SpellsSoFar}
use Rattle.rmi_codec.proofs.front.digits_front.Given as goal

abbrev pub invariant-loop-count : goal.invariant-loop-count
invariant-loop-count l = record {
  so_far : SpellsSoFar 10 l.text l.count l.number;
  some : 0 < l.count;
  within : l.count ≤ 6;
  below : l.number < 10 ^ l.count;
}

abbrev pub decreases-loop-count : goal.decreases-loop-count
decreases-loop-count l = 6 - l.count
