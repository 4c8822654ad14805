use Rattle.std.proofs.Common.{◌≡◌, IfOk, sym, subst, ◌∙◌}
use Rattle.rmm_spec.specs.World.{opening_world}
use Rattle.scenario.specs.SeenPrograms.{seen_programs}
use Rattle.world.specs.Opening.{CanOpen}
use Rattle.world.specs.World.{world_of}
use Rattle.world_runs.specs.Played.{program_of}
use Rattle.world_runs.proofs.Scenarios.{CanOpen-scenario, programs_of-scenario}
use Rattle.world_runs.proofs.run.opened.Goals as goal

pub new-requires : goal.new-requires
new-requires c =
    let scenario = c.args.scenario.now in
    let programs = c.in_ok-programs.programs.items in
    let same : seen_programs programs ≡ scenario.programs = c.in_ok-programs.ensures ∙ c.programs.ensures.programs in
    subst (λ config. CanOpen config programs) (sym c.config.ensures.config) (CanOpen-scenario scenario programs c.config.ensures.limits same)

pub returns : goal.returns
returns c =
    let scenario = c.args.scenario.now in
    let programs = c.in_ok-programs.programs.items in
    let same : seen_programs programs ≡ scenario.programs = c.in_ok-programs.ensures ∙ c.programs.ensures.programs in
    subst (λ config. IfOk c.new.result (λ w. world_of w ≡ opening_world config (program_of scenario))) c.config.ensures.config
    (subst (λ of. IfOk c.new.result (λ w. world_of w ≡ opening_world c.config.result.now of))
    (programs_of-scenario scenario programs same) c.new.ensures.world)
