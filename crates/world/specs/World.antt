-- What contracts see of a world.
use Rattle.std.specs.Prelude.{ℕ, Option}
use Rattle.rmm_spec.specs.World as spec
use Rattle.world.specs.Cpus.{views_of}
use Rattle.world.specs.Whole.{world_from}
use Rattle.world.specs.declared.world.World.{World}

unfoldable pub world_of : World → spec.World
world_of w = world_from w.cells w.side w.cpus w.journal.items w.history.recorded

-- what each CPU waits for
unfoldable pub waits_of : World → ℕ → Option ℕ
waits_of w = (views_of w.cpus).waits
