use Rattle.std.proofs.Common.{sym, subst, ◌∙◌}
use Rattle.std.proofs.lemmas.List.{take_more}
use Rattle.world.specs.World.{world_of}
use Rattle.world_runs.specs.Played.{Plays}
use Rattle.world_runs.proofs.Turning.{Plays-push, config-Turns}
use Rattle.world_runs.proofs.playing.take_listed.Goals as goal

pub loop-due-preserved : goal.loop-due-preserved
loop-due-preserved c =
    let old = world_of c.args.world.now in
    let mid = world_of c.loop-due.world in
    let new = world_of c.turn.new.self in (
      subst (λ dues. Plays old dues new) (sym (take_more c.args.turns.now c.loop-due.due-index _ c.loop-due-test.true))
          (Plays-push old _ mid _ new c.loop-due.invariant.0
          (record {
            turned = c.in_ok-turn.ensures.turned;
            exact = c.in_ok-turn.ensures.exact;
            planned = c.in_ok-turn.ensures.planned;
            is_new = c.in_ok-turn.ensures.world;
          })),
      config-Turns mid _ _ _ new c.in_ok-turn.ensures.turned ∙ c.loop-due.invariant.1,
    )
