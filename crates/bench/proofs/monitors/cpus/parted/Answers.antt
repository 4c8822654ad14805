use Rattle.std.proofs.Common.{◌≡◌, ◌+◌, List, [], ◌∷◌, ◌++◌, length, Option, sym, ap, arith, ◌∙◌, subst}
use Rattle.std.specs.Prelude.{IfSome}
use Rattle.std.proofs.lemmas.List.{length_push}
use Rattle.std.proofs.lemmas.List.Elements.{All-pop}
use Rattle.commit_tickets.specs.View.{TokenView}
use Rattle.event_queue.specs.View.{CpuView}
use Rattle.monitor.specs.Cpus.{ArePairs}
use Rattle.monitor.specs.Executed.{ArePaired}
use Rattle.bench.specs.declared.monitors.cpu.Cpu.{Cpu}
use Rattle.bench.proofs.Pairs.{AreNumbered, numbered-push, pairs-push}
use Rattle.bench.proofs.monitors.cpus.parted.Goals as goal

pub loop-number-preserved : goal.loop-number-preserved
loop-number-preserved g c =
    let monitor = c.args.monitor.now in
    let cpu = c.in_ok-cpu.cpu in
    let old = c.loop-number.invariant in
    let Holds : Cpu g.row.S.Denot → Type 0 = λ one. ArePaired monitor one.token one.pass in
    let popped = All-pop Holds c.loop-number.cpus.items c.pop.new.self.items c.pop.result c.pop.ensures.items old.3 in
    let holds : Holds cpu = subst (λ (found : Option (Cpu g.row.S.Denot)). IfSome found Holds) c.in_ok-cpu.ensures popped.1 in
    let same : cpu.token.cpu ≡ length c.loop-number.tokens.items = grind (arith, c.cpu.ensures, c.if-cpu-number.false, old.1) in (
      subst (λ (ts : List TokenView). ArePairs monitor ts c.push-in-loop-number.new.self.items) (sym c.in_ok-push.ensures.items)
          (subst (λ (ps : List CpuView). ArePairs monitor (c.loop-number.tokens.items ++ cpu.token ∷ []) ps) (sym c.in_ok-push-2.ensures.items)
          (pairs-push monitor c.loop-number.tokens.items c.loop-number.passes.items cpu.token cpu.pass old.0 holds)),
      ap length c.in_ok-push.ensures.items ∙ length_push c.loop-number.tokens.items cpu.token ∙ ap (λ n. n + 1) old.1,
      subst AreNumbered (sym c.in_ok-push.ensures.items) (numbered-push c.loop-number.tokens.items cpu.token old.2 same),
      popped.0,
    )
