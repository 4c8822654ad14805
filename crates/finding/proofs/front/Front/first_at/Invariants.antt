-- The first of the CPUs so far.
use Rattle.finding.specs.Choice.{IsLeast}
use Rattle.finding.proofs.Fronts.{IsFound}
use Rattle.finding.proofs.front.Front.first_at.Given as goal

abbrev pub invariant-loop-cpu : goal.invariant-loop-cpu
invariant-loop-cpu l = record {
  least : IsLeast l.history.recorded.events l.self.counts l.from l.cpu l.least;
  found : IsFound l.history.recorded l.self l.from l.first l.least;
}
