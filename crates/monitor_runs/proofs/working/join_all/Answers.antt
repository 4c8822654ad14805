use Rattle.std.proofs.Common.{◌≡◌, ℕ, ◌+◌, ◌<◌, List, [], ◌∷◌, ◌++◌, sym, ap, subst, arith}
use Rattle.std.specs.declared.thread.PromisedHandle.{PromisedHandle}
use Rattle.rmm_spec.specs.declared.command.Command.{Command}
use Rattle.rmm_spec.specs.HistoryText.{Config}
use Rattle.commit_tickets.specs.declared.token.CpuToken.{CpuToken}
use Rattle.event_queue.specs.declared.cpu_pass.CpuPass.{CpuPass}
use Rattle.monitor_runs.specs.declared.working.Works.{Works}
use Rattle.commit_tickets.specs.View.{TokenView}
use Rattle.event_queue.specs.View.{CpuView}
use Rattle.monitor_runs.specs.Worked.{HaveWorked}
use Rattle.monitor_runs.proofs.Waiting.{promised-all, joined-some, joined-next, worked-none, worked-push, worked-promised}
use Rattle.monitor_runs.proofs.working.join_all.Goals as goal

pub loop-cpu-init : goal.loop-cpu-init
loop-cpu-init g c = (
  worked-none c.args.monitor.now c.args._scenario.now.programs _ _ c.new-tokens.ensures.items c.new-passes.ensures.items,
  c.requires.monitor,
  promised-all c.args._scenario.now.programs c.args.monitor.now.config.cpus _ c.requires.promised,
)

pub last_of-requires : goal.last_of-requires
last_of-requires g c =
    let cpus = c.args.monitor.now.config.cpus in
    let within : c.loop-cpu._cpu < c.args.monitor.now.config.cpus =
    omega (arith, c.loop-cpu-test.true, c.cpus-cpu-end.ensures.count, ap (λ (k : Config). k.cpus) c.config.ensures) in
    joined-some _ c.args._scenario.now.programs cpus c.loop-cpu._cpu c.loop-cpu.workers.items within c.loop-cpu.invariant.2

pub loop-cpu-preserved : goal.loop-cpu-preserved
loop-cpu-preserved g c =
    let monitor = c.args.monitor.now in
    let programs = c.args._scenario.now.programs in
    let cpus = monitor.config.cpus in
    let cpu = c.loop-cpu._cpu in
    let within : c.loop-cpu._cpu < c.args.monitor.now.config.cpus =
    omega (arith, c.loop-cpu-test.true, c.cpus-cpu-end.ensures.count, ap (λ (k : Config). k.cpus) c.config.ensures) in
    let Holds : PromisedHandle (CpuToken g.row.S.Denot × CpuPass) (Works g.row.S.Denot) → Type 0 = λ w. w.promise.monitor.now ≡ monitor in
    let view : PromisedHandle (CpuToken g.row.S.Denot × CpuPass) (Works g.row.S.Denot) → ℕ × List Command =
    λ w. (w.promise.cpu, w.promise.program.value.items) in
    let next =
    joined-next view programs cpus cpu c.loop-cpu.workers.items within c.loop-cpu.invariant.2 Holds c.last_of.new.items.items c.last_of.result
    c.last_of.ensures c.loop-cpu.invariant.1 in
    let token = c.join-token.result.0 in
    let pass = c.join-token.result.1 in
    let worked = worked-push monitor programs cpu c.loop-cpu.tokens.items c.loop-cpu.passes.items token pass c.loop-cpu.invariant.0
    (worked-promised monitor c.last_of.result.promise.monitor.now programs cpu
    (view c.last_of.result) token pass next.0 next.3 c.join-token.ensures) in (
      subst (λ (ts : List TokenView). HaveWorked monitor programs (cpu + 1) ts c.push-in-loop-cpu.new.self.items) (sym c.in_ok-push.ensures.items)
          (subst (λ (ps : List CpuView). HaveWorked monitor programs (cpu + 1) (c.loop-cpu.tokens.items ++ token ∷ []) ps)
          (sym c.in_ok-push-2.ensures.items) worked),
      next.1,
      next.2,
    )
