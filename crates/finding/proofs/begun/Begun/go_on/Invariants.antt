-- The order so far: where it leads nowhere, it did at first.
use Rattle.finding.specs.Begun.{IsBegun, IsLost}
use Rattle.finding.proofs.begun.Begun.go_on.Given as goal

abbrev pub invariant-calls : goal.invariant-calls
invariant-calls l = record {
  begun : IsBegun l.history.recorded l.self;
  covers : IsLost l.history.recorded l.self → IsLost l.history.recorded l.fn.self;
}
