use Rattle.std.proofs.Common.{List, sym, subst}
use Rattle.commit_tickets.specs.View.{TokenView}
use Rattle.event_queue.specs.View.{CpuView}
use Rattle.monitor.specs.Cpus.{AreCpus}
use Rattle.monitor.proofs.CpuLists.{cpus-of_two}
use Rattle.thread_tests.proofs.meeting.parted.Goals as goal

pub returns-clause-cpus : goal.returns-clause-cpus
returns-clause-cpus g c =
    let first = c.args.first in
    let second = c.args.second in
    subst (λ (p : List TokenView × List CpuView). AreCpus c.args._monitor.now p.0 p.1)
    (λ i. (sym c.in_ok-tokens.ensures i, sym c.in_ok-passes.ensures.items i))
    (cpus-of_two c.args._monitor.now first.token second.token first.pass second.pass
    c.requires.two c.requires.first.0 c.requires.second.0 c.requires.first.1 c.requires.second.1)
