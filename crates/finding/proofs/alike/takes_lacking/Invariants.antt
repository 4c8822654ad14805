-- The order as it has grown.
use Rattle.finding.proofs.Common.{◌≡◌}
use Rattle.finding.specs.Begun.{IsBegun, IsLost, base_of}
use Rattle.finding.proofs.alike.takes_lacking.Given as goal

abbrev pub invariant-cpus : goal.invariant-cpus
invariant-cpus l = record {
  begun : IsBegun l.history.recorded l.begun;
  base : base_of l.begun ≡ base_of l.fn.begun;
  lost : IsLost l.history.recorded l.fn.begun → IsLost l.history.recorded l.begun;
}
