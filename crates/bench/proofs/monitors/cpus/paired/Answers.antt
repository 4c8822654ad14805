use Rattle.std.proofs.Common.{◌≡◌, List, [], ◌∷◌, ◌++◌, ap, ◌∙◌, subst}
use Rattle.std.specs.Prelude.{option_to_list}
use Rattle.std.proofs.lemmas.List.Elements.{All-push, All-same}
use Rattle.commit_tickets.specs.View.{TokenView}
use Rattle.event_queue.specs.View.{CpuView}
use Rattle.monitor.specs.Cpus.{ArePairs}
use Rattle.monitor.specs.Executed.{ArePaired}
use Rattle.monitor.proofs.CpuLists.{pairs-popped}
use Rattle.bench.specs.declared.monitors.cpu.Cpu.{Cpu}
use Rattle.bench.proofs.monitors.cpus.paired.Goals as goal

pub loop-cpu-preserved : goal.loop-cpu-preserved
loop-cpu-preserved g c =
    let monitor = c.args.monitor.now in
    let tokens = c.pop.new.self.items in
    let passes = c.pop-in-loop-cpu.new.self.items in
    let token = c.in_ok-token.token in
    let pass = c.in_ok-pass.pass in
    let tokens_were : c.loop-cpu.tokens.items ≡ tokens ++ token ∷ [] =
    c.pop.ensures.items ∙ ap (λ t. tokens ++ option_to_list t) c.in_ok-token.ensures in
    let passes_were : c.loop-cpu.passes.items ≡ passes ++ pass ∷ [] =
    c.pop-in-loop-cpu.ensures.items ∙ ap (λ p. passes ++ option_to_list p) c.in_ok-pass.ensures in
    let popped = pairs-popped monitor tokens passes token pass
    (subst (λ (ts : List TokenView). ArePairs monitor ts (passes ++ pass ∷ [])) tokens_were
    (subst (λ (ps : List CpuView). ArePairs monitor c.loop-cpu.tokens.items ps) passes_were c.loop-cpu.invariant.0)) in
    let Holds : Cpu g.row.S.Denot → Type 0 = λ cpu. ArePaired monitor cpu.token cpu.pass in
    (popped.1, All-same Holds _ _ c.in_ok-push.ensures.items (All-push Holds c.loop-cpu.cpus.items _ c.loop-cpu.invariant.1 popped.0))
