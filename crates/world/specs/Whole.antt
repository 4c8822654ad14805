-- The world that a world's fields stand for.
use Rattle.std.specs.Prelude.{ℕ, List}
use Rattle.rmm_spec.specs.HistoryText.{History}
use Rattle.rmm_spec.specs.Shape as shape
use Rattle.rmm_spec.specs.Cell.{Cell}
use Rattle.rmm_spec.specs.World.{World, Commitment}
use Rattle.command_core.specs.Sides.{side_of}
use Rattle.granule_cells.specs.declared.side.Side.{Side}
use Rattle.world.specs.Granules.{cells_of}
use Rattle.world.specs.Cpus.{Views, views_of}
use Rattle.world.specs.declared.cells.Cells.{Cells}
use Rattle.world.specs.declared.cpus.Cpus.{Cpus}

-- with what all CPUs tell
abbrev pub world_with : (ℕ → Cell) → shape.Side → Views → List Commitment → History → World
world_with cells side views journal history = record {
  config = history.config;
  cells = cells;
  side = side;
  taken = views.taken;
  place = views.place;
  phase = views.phase;
  program = views.program;
  journal = journal;
  events = history.events;
}

unfoldable pub world_from : Cells → Side → Cpus → List Commitment → History → World
world_from cells side cpus journal history = world_with (cells_of cells) (side_of side) (views_of cpus) journal history
