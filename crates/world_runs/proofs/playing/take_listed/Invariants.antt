use Rattle.std.proofs.Common.{◌≡◌, take}
use Rattle.world.specs.World.{world_of}
use Rattle.world_runs.specs.Played.{Plays}
use Rattle.world_runs.proofs.playing.take_listed.Given as goal

abbrev pub invariant-loop-due : goal.invariant-loop-due
invariant-loop-due l = Plays (world_of l.fn.world) (take l.due-index l.turns) (world_of l.world)
    × ((world_of l.world).config ≡ (world_of l.fn.world).config)
