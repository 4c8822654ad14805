-- The CPUs so far.
use Rattle.std.proofs.Common.{◌≡◌, length}
use Rattle.finding.proofs.Fronts.{AreNexts}
use Rattle.finding.proofs.front.Front.new.Given as goal

abbrev pub invariant-loop-cpu : goal.invariant-loop-cpu
invariant-loop-cpu l = record {
  nexts : length l.nexts ≡ 8;
  ranks : length l.ranks ≡ 8;
  each : AreNexts l.history.recorded l.counts l.nexts l.ranks l.cpu;
}
