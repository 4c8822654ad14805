-- The next calls of the CPUs so far are found.
use Rattle.finding.proofs.Common.{◌<◌, ◌≡◌, Option, Some, length, slice_get, ℕ}
use Rattle.finding.specs.Next.{IsNextFound}
use Rattle.finding.specs.declared.next_call.NextCall.{NextCall}
use Rattle.finding.proofs.next_call.open_calls.Given as goal

abbrev pub invariant-loop-cpu : goal.invariant-loop-cpu
invariant-loop-cpu l = record {
  eight : length l.calls ≡ 8;
  each : (cpu : ℕ) (next : Option NextCall) → cpu < l.cpu → slice_get l.calls cpu ≡ Some next
      → IsNextFound l.history.recorded l.front.counts l.place cpu next;
}
