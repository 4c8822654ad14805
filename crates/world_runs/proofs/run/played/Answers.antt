use Rattle.std.proofs.Common.{◌≡◌, ◌<◌, ◌≤◌, ◌-◌, length, take, ap, sym, subst, ◌∙◌}
use Rattle.std.specs.List.{All}
use Rattle.std.proofs.lemmas.List.Elements.{All-from_recursion, All-take}
use Rattle.rmm_spec.specs.declared.turn.Due.{Due}
use Rattle.rmm_spec.specs.HistoryText.{Config}
use Rattle.rmm_spec.specs.World.{World}
use Rattle.world.specs.World.{world_of}
use Rattle.world_runs.specs.Played.{program_of, GoesRound}
use Rattle.world_runs.proofs.One.{one-world}
use Rattle.world_runs.proofs.Printed.{IsPlayed-from, config-opening}
use Rattle.world_runs.proofs.run.played.Goals as goal

pub take_listed-requires : goal.take_listed-requires
take_listed-requires c =
    let scenario = c.args.scenario.now in
    let cpus = scenario.config.cpus in
    let listed : c.up_to-listed.result.now ≡ take c.limit-limit.result scenario.turns =
    c.up_to-listed.ensures.first ∙ ap (λ turns. take c.limit-limit.result turns) c.turns.ensures.turns in
    let size =
    ap (λ (w : World). w.config.cpus) c.in_ok-world.ensures ∙ ap (λ (k : Config). k.cpus) (config-opening scenario.config (program_of scenario)) in
    let all = All-from_recursion (λ (turn : Due). turn.cpu < cpus) scenario.turns c.turns.ensures.limits.turns in
    let first = All-take (λ (turn : Due). turn.cpu < cpus) c.limit-limit.result scenario.turns all in
    subst (λ cpus. All (λ (turn : Due). turn.cpu < cpus) c.up_to-listed.result.now) (sym size)
    (subst (All (λ (turn : Due). turn.cpu < cpus)) (sym listed) first)

pub returns : goal.returns
returns c =
    let scenario = c.args.scenario.now in
    let listed = c.up_to-listed.result.now in
    let first = world_of c.take_listed.new.world in
    let w = world_of c.go_round.new.world in
    let most = c.limit-limit.ensures.most in
    let played =
    IsPlayed-from scenario listed (world_of c.in_ok-world.world) first w c.in_ok-world.ensures
    (c.up_to-listed.ensures.first ∙ (λ i. take (most i) (c.turns.ensures.turns i)))
    (subst (λ limit. length listed ≤ limit) most c.up_to-listed.ensures.few)
    c.in_ok-take_listed.ensures.played c.in_ok-take_listed.ensures.config
    (subst (λ limit. GoesRound first (limit - length listed) w) most c.in_ok-go_round.ensures) in
    record { played = played; one = one-world scenario w c.turns.ensures.limits.config.some_cpus played }
