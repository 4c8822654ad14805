use Rattle.std.proofs.Common.{◌≡◌, ℕ, ◌+◌, ◌-◌, List, length, map, ap, ◌∙◌, arith}
use Rattle.std.specs.Prelude.{Vec}
use Rattle.std.specs.declared.alloc.Global.{Global}
use Rattle.std.specs.declared.thread.PromisedHandle.{PromisedHandle}
use Rattle.std.proofs.lemmas.List.Elements.{All-push, All-same}
use Rattle.rmm_spec.specs.declared.command.Command.{Command}
use Rattle.commit_tickets.specs.declared.token.CpuToken.{CpuToken}
use Rattle.event_queue.specs.declared.cpu_pass.CpuPass.{CpuPass}
use Rattle.monitor_runs.specs.declared.working.Works.{Works}
use Rattle.monitor_runs.proofs.Waiting.{promised-push}
use Rattle.monitor_runs.proofs.working.fn.work_all.scope.Goals as goal

pub loop-cpu-preserved : goal.loop-cpu-preserved
loop-cpu-preserved g c =
    let programs = c.captures.scenario.now.programs in
    let cpus = c.captures.monitor.now.config.cpus in
    let count = c.loop-cpu._cpu in
    let last = c.last_cpu-cpu.ensures.last in
    let left = length c.last_cpu-cpu.new.waiting.tokens.items in
    let worker = c.in_ok-worker.worker in
    let promise = c.in_ok-worker.ensures.ok in
    let Holds : PromisedHandle (CpuToken g.row.S.Denot × CpuPass) (Works g.row.S.Denot) → Type 0 =
    λ w. w.promise.monitor.now ≡ c.captures.monitor.now in
    let view : PromisedHandle (CpuToken g.row.S.Denot × CpuPass) (Works g.row.S.Denot) → ℕ × List Command =
    λ w. (w.promise.cpu, w.promise.program.value.items) in
    let is_left : left ≡ cpus - (count + 1) = omega (arith, c.last_cpu-cpu.ensures.count, c.loop-cpu.invariant.1) in
    let is_cpu = ap (λ (p : Works g.row.S.Denot). p.cpu) promise ∙ c.cpu.ensures ∙ last.same_cpu in
    let is_program =
    ap (λ (p : Works g.row.S.Denot). p.program.value.items) promise ∙ ap (λ (v : Vec Command Global). v.items) c.of.ensures ∙ last.same_program in (
      last.others,
      is_left,
      All-same Holds _ _ c.push_reserved.ensures.items
          (All-push Holds c.loop-cpu.workers.items worker c.loop-cpu.invariant.2 (ap (λ (p : Works g.row.S.Denot). p.monitor.now) promise)),
      ap (map view) c.push_reserved.ensures.items
          ∙ promised-push view programs cpus count left c.loop-cpu.workers.items worker c.loop-cpu.invariant.3 is_left is_cpu is_program,
      omega (arith, c.push_reserved.ensures.len, c.loop-cpu.invariant.4),
      omega (arith, c.push_reserved.ensures.capacity, c.loop-cpu.invariant.5),
    )
