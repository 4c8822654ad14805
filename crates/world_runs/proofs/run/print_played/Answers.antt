use Rattle.world.specs.World.{world_of}
use Rattle.world_laws.proofs.Turned.{moves_of_turns}
use Rattle.rmm_spec.specs.World.{opening_world}
use Rattle.world_runs.specs.Played.{program_of}
use Rattle.world_runs.proofs.Printed.{IsPrinted-from}
use Rattle.world_runs.proofs.Turning.{TurnAll-exact}
use Rattle.world_runs.proofs.run.print_played.Goals as goal

pub returns-clause-printed : goal.returns-clause-printed
returns-clause-printed c =
    let w = world_of c.in_ok-world.world in
    let scenario = c.args.scenario.now in
    let config = scenario.config in
    let programs = program_of scenario in
    let played = c.in_ok-world.ensures.played in
    let opening = opening_world config programs in
    let moves = moves_of_turns opening played.plays.turns w (TurnAll-exact opening played.plays.turns w played.plays.run) in
    let certified = c.every_run_is_certified-fact.ensures.certified config programs moves.0 w moves.1 in
    IsPrinted-from scenario w c.in_ok-history.history.recorded c.in_ok-certificate.certificate.lines
    c.args.out.now.items c.print_run.new.out.items c.print_run.result c.in_ok-world.ensures.one played certified.linearization
    c.in_ok-history.ensures.recorded c.in_ok-certificate.ensures.lines c.print_run.ensures.text c.print_run.ensures.valid
