use Rattle.std.proofs.Common.{List, [], ◌∷◌, ◌++◌, length, ap, ◌∙◌, subst, arith}
use Rattle.std.specs.Prelude.{Vec}
use Rattle.std.specs.declared.alloc.Global.{Global}
use Rattle.std.proofs.lemmas.List.{length_push}
use Rattle.rmm_spec.specs.declared.command.Command.{Command}
use Rattle.commit_tickets.specs.View.{TokenView}
use Rattle.event_queue.specs.View.{CpuView}
use Rattle.monitor_runs.specs.Worked.{AreWaiting}
use Rattle.monitor_runs.proofs.Waiting.{waiting-last}
use Rattle.monitor_runs.proofs.working.last_cpu.Goals as goal

pub last_of-pass-requires : goal.last_of-pass-requires
last_of-pass-requires g c = omega (arith, c.requires.waiting.pairs.same_count, c.requires.some)

pub last_of-program-requires : goal.last_of-program-requires
last_of-program-requires g c = omega (arith, c.requires.waiting.program_count, c.requires.some)

pub returns-clause-last : goal.returns-clause-last
returns-clause-last g c =
    let monitor = c.args._monitor.now in
    let programs = c.args._scenario.now.programs in
    let token = c.last_of-token.result in
    let pass = c.last_of-pass.result in
    let program = c.last_of-program.result in
    let tokens = c.last_of-token.new.items.items in
    let passes = c.last_of-pass.new.items.items in
    let given = c.last_of-program.new.items.items in
    let waiting =
    subst (λ (ts : List TokenView). AreWaiting monitor programs ts (passes ++ pass ∷ []) (given ++ program ∷ [])) c.last_of-token.ensures
    (subst (λ (ps : List CpuView). AreWaiting monitor programs c.args.waiting.now.tokens.items ps (given ++ program ∷ [])) c.last_of-pass.ensures
    (subst (λ (vs : List (Vec Command Global)). AreWaiting monitor programs c.args.waiting.now.tokens.items c.args.waiting.now.passes.items vs)
    c.last_of-program.ensures c.requires.waiting)) in
    waiting-last monitor c.args._scenario.now tokens passes given token pass program c.requires.limits waiting

pub returns-clause-count : goal.returns-clause-count
returns-clause-count g c = ap length c.last_of-token.ensures ∙ length_push c.last_of-token.new.items.items c.last_of-token.result
