use Rattle.monitor.proofs.Common.{◌≡◌, Some, ap, arith, ◌∙◌, subst, slice_get, before_calls, MonitorView}
use Rattle.monitor.specs.View.{QueueView}
use Rattle.monitor.proofs.CpuLists.{cpus-first}
use Rattle.monitor.proofs.monitor.Monitor.new.Goals as goal

pub returns-clause-cpus : goal.returns-clause-cpus
returns-clause-cpus g c =
    let recorder = c.queue.inside.recorder in
    let passes = c.queue.inside.passes.items in
    let monitor : MonitorView = record { config = c.args.config; queue = recorder.queue; capacity = recorder.capacity } in
    let size = ap (λ (q : QueueView). q.cpus) c.queue.view_is ∙ c.requires.queue.1 in
    cpus-first monitor c.in_ok-journal.tokens.items passes c.in_ok-journal.ensures.tokens (c.queue.invariant.0 ∙ size)
    (λ cpu within. subst (λ n. slice_get passes cpu ≡ Some (before_calls recorder.queue n cpu)) size
    (c.queue.invariant.1 cpu (omega (arith, within, size))))
