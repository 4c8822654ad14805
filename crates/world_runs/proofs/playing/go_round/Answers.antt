use Rattle.std.proofs.Common.{◌+◌, Bool, sym, ap, ◌∙◌, subst, arith}
use Rattle.std.proofs.lemmas.Bool.Decides.{nat_tests}
use Rattle.rmm_spec.specs.HistoryText.{Config}
use Rattle.world.specs.World.{world_of}
use Rattle.world_runs.proofs.Turning.{IsRound, round-first, round-next, round-again}
use Rattle.world_runs.proofs.playing.go_round.Goals.{then-cpu-cpus+else-not-has_moved, else-cpu-cpus}
use Rattle.world_runs.proofs.playing.go_round.Goals as goal

pub loop-turn-init : goal.loop-turn-init
loop-turn-init c =
    let size = ap (λ (k : Config). k.cpus) c.config.ensures in
    (round-first (world_of c.args.world.now) (omega (arith, size, c.cpus-cpus.ensures.limits.some_cpus)), c.cpus-cpus.ensures.count ∙ size)

pub loop-turn-preserved : goal.loop-turn-preserved
loop-turn-preserved c =
    let old = world_of c.args.world.now in
    let mid = world_of c.loop-turn.world in
    let new = world_of c.go_once.new.world in
    let turns = c.loop-turn._turn in
    let cpu = c.loop-turn.cpu in
    let had = c.loop-turn.has_moved in
    let has = c.in_ok-has_moved.has_moved in
    let round = c.loop-turn.invariant.0 in
    let same = c.loop-turn.invariant.1 in
    elim c.if-cpu-cpus.branch [
      | then-cpu-cpus+else-not-has_moved w ↦ (
        subst (λ k. IsRound old (turns + 1) k c.if-cpu-cpus.has_moved new) (sym w.cpu-is)
            (subst (λ (b : Bool). IsRound old (turns + 1) 0 b new) (sym w.has_moved-is)
            (round-again old mid new turns cpu had has round c.in_ok-has_moved.ensures (grind (arith, nat_tests, w.if-cpu-cpus.true, same)))),
        same,
      )
      | else-cpu-cpus w ↦ (
        subst (λ k. IsRound old (turns + 1) k c.if-cpu-cpus.has_moved new) (sym w.cpu-is)
            (subst (λ (b : Bool). IsRound old (turns + 1) (cpu + 1) b new) (sym w.has_moved-is)
            (round-next old mid new turns cpu had has round c.in_ok-has_moved.ensures
            (grind (arith, nat_tests, w.if-cpu-cpus.false, same, round.within)))),
        same,
      )
    ]
