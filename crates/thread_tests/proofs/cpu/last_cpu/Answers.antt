use Rattle.std.proofs.Common.{◌≡◌, List, [], ◌∷◌, ◌++◌, ap, ◌∙◌, subst}
use Rattle.std.specs.Prelude.{option_to_list}
use Rattle.commit_tickets.specs.View.{TokenView}
use Rattle.event_queue.specs.View.{CpuView}
use Rattle.monitor.specs.Cpus.{ArePairs}
use Rattle.monitor.proofs.CpuLists.{pairs-popped}
use Rattle.thread_tests.proofs.cpu.last_cpu.Goals as goal

pub returns : goal.returns
returns g c =
    let tokens = c.pop-2.new.self.items in
    let passes = c.pop.new.self.items in
    let token = c.in_ok-token.token in
    let pass = c.in_ok-pass.pass in
    let tokens_were : c.args.tokens.now.items ≡ tokens ++ token ∷ [] =
    c.pop-2.ensures.items ∙ ap (λ t. tokens ++ option_to_list t) c.in_ok-token.ensures.ok_part in
    let passes_were : c.args.passes.now.items ≡ passes ++ pass ∷ [] =
    c.pop.ensures.items ∙ ap (λ p. passes ++ option_to_list p) c.in_ok-pass.ensures.ok_part in
    pairs-popped c.args.monitor.now tokens passes token pass
    (subst (λ (ts : List TokenView). ArePairs c.args.monitor.now ts (passes ++ pass ∷ [])) tokens_were
    (subst (λ (ps : List CpuView). ArePairs c.args.monitor.now c.args.tokens.now.items ps) passes_were c.requires))
