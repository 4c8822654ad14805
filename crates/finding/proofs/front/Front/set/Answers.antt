use Rattle.std.proofs.Common.{arith}
use Rattle.finding.proofs.Fronts.{IsFront-set, IsFront-beyond}
use Rattle.finding.proofs.front.Front.set.Goals as goal

pub returns-then-cpu-cpus_of-clause-front : goal.returns-then-cpu-cpus_of-clause-front
returns-then-cpu-cpus_of-clause-front c =
    rw c.rank_or_nowhere.ensures
    (IsFront-set c.args.history.now.recorded c.args.self.now c.args.cpu c.args.count
    c.next_of-next.result _ _ c.requires.cpu c.requires.front c.next_of-next.ensures)

pub returns-else-cpu-cpus_of-clause-front : goal.returns-else-cpu-cpus_of-clause-front
returns-else-cpu-cpus_of-clause-front c =
    IsFront-beyond c.args.history.now.recorded c.args.self.now c.args.cpu c.args.count c.requires.front
    (omega (arith, c.cpus_of.ensures.count, c.if-cpu-cpus_of.false))
