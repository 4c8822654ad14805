use Rattle.std.proofs.Common.{◌≡◌, ℕ, ◌<◌, Some, ap, sym, ◌∙◌, subst}
use Rattle.std.specs.Prelude.{slice_get}
use Rattle.std.proofs.lemmas.Result.{err_from_is_err_and}
use Rattle.rmm_spec.specs.HistoryText.{Config, History}
use Rattle.commit_tickets.specs.View.{first_tokens}
use Rattle.event_queue.specs.View.{before_calls}
use Rattle.monitor_runs.proofs.Closed.{IsThreadRun-from, MayDisagree-from}
use Rattle.monitor_runs.proofs.Waiting.{waiting-all, worked-cpus, worked-room}
use Rattle.monitor_runs.proofs.run.recorded.Goals as goal

pub work_all-requires-clause-waiting : goal.work_all-requires-clause-waiting
work_all-requires-clause-waiting g c κs within =
    let monitor = c.in_ok-monitor.monitor in
    let scenario = c.args.scenario.now in
    let size = ap (λ (k : Config). k.cpus) c.in_ok-monitor.ensures.config in
    let before =
    subst (λ n. (cpu : ℕ) → cpu < n → slice_get c.in_ok-monitor.passes.items cpu ≡ Some (before_calls monitor.queue n cpu)) (sym size)
    c.in_ok-monitor.ensures.passes in (
      waiting-all monitor scenario c.in_ok-programs.programs.items c.in_ok-monitor.tokens.items c.in_ok-monitor.passes.items c.requires.limits
          (c.in_ok-monitor.ensures.config ∙ c.requires.config) (c.in_ok-programs.ensures ∙ c.programs.ensures.programs) c.in_ok-monitor.ensures.cpus
          (c.in_ok-monitor.ensures.tokens ∙ ap first_tokens (sym size)) (c.in_ok-monitor.ensures.count ∙ sym size) before,
      c.in_ok-monitor.ensures.cpus.count,
    )

pub close-requires-clause-cpus : goal.close-requires-clause-cpus
close-requires-clause-cpus g c =
    worked-cpus c.in_ok-monitor.monitor c.args.scenario.now.programs c.in_ok-ended.ended.tokens.items c.in_ok-ended.ended.passes.items
    c.in_ok-ended.ensures.worked

pub close-requires-clause-config : goal.close-requires-clause-config
close-requires-clause-config g c =
    c.in_ok-ended.ensures.same_config ∙ ap (λ (h : History). h.config) c.new-history.ensures ∙ sym c.in_ok-monitor.ensures.config

pub close-requires-clause-room : goal.close-requires-clause-room
close-requires-clause-room g c =
    worked-room c.in_ok-monitor.monitor c.args.scenario.now c.in_ok-ended.ended.tokens.items c.in_ok-ended.ended.passes.items c.requires.limits
    c.in_ok-ended.ensures.worked

pub returns-in_err-ended-clause-disagrees : goal.returns-in_err-ended-clause-disagrees
returns-in_err-ended-clause-disagrees g c =
    let p = err_from_is_err_and c.from_residual-in_err-ended.result c.from_residual-in_err-ended.ensures.1 in
    rw (p.1, p.2) (λ is. absurd (c.in_err-ended.ensures is))

pub returns-in-Ok-clause-ran : goal.returns-in-Ok-clause-ran
returns-in-Ok-clause-ran g c =
    let same = ap (λ (h : History). h.config) c.in-Ok.ensures.history.1 ∙ c.in_ok-ended.ensures.same_config
    ∙ ap (λ (h : History). h.config) c.new-history.ensures ∙ c.requires.config in
    IsThreadRun-from c.in_ok-monitor.monitor c.args.scenario.now c.in_ok-ended.ended.tokens.items c.in_ok-ended.ended.passes.items
    c.in-Ok.closed.0.recorded c.in-Ok.closed.1.lines (c.in_ok-monitor.ensures.config ∙ c.requires.config)
    (c.in_ok-monitor.ensures.capacity ∙ c.requires.capacity) same c.in_ok-ended.ensures.worked c.in-Ok.ensures.whole c.in-Ok.ensures.certificate

pub returns-clause-disagrees : goal.returns-clause-disagrees
returns-clause-disagrees g c = λ _.
    MayDisagree-from c.in_ok-monitor.monitor c.args.scenario.now c.in_ok-ended.ended.tokens.items c.in_ok-ended.ended.passes.items _
    (c.in_ok-monitor.ensures.config ∙ c.requires.config) (c.in_ok-monitor.ensures.capacity ∙ c.requires.capacity) c.in_ok-ended.ensures.worked
    (c.in-Err-Disagrees.ensures.cause _ c.in-Err-Disagrees.field-0-is)
