use Rattle.std.proofs.Common.{◌≡◌}
use Rattle.world.specs.World.{world_of}
use Rattle.world_runs.proofs.Turning.{IsRound}
use Rattle.world_runs.proofs.playing.go_round.Given as goal

abbrev pub invariant-loop-turn : goal.invariant-loop-turn
invariant-loop-turn l = IsRound (world_of l.fn.world) l._turn l.cpu l.has_moved (world_of l.world) × (l.cpus ≡ (world_of l.fn.world).config.cpus)
