-- The programs that a world is opened with.
use Rattle.std.specs.Prelude.{◌≡◌, ℕ, ◌≤◌, List, [], length, Option, Some, None, Vec, slice_get}
use Rattle.std.specs.declared.alloc.Global.{Global}
use Rattle.rmm_spec.specs.declared.command.Command.{Command}
use Rattle.rmm_spec.specs.HistoryText.{Config}
use Rattle.rmm_spec.specs.Shape.{Outside}
use Rattle.rmm_spec.specs.World as world
use Rattle.world_laws.specs.Programs.{HaveTexts, commands_below}
use Rattle.world.specs.Cpus.{Views}

abbrev pub program_in : Option (Vec Command Global) → List Command
program_in None = []
program_in (Some program) = program.items

-- the program of each CPU, and no command of one that isn't there
abbrev pub programs_of : List (Vec Command Global) → ℕ → List Command
programs_of programs = λ cpu. program_in (slice_get programs cpu)

-- A program for each CPU, of commands that have texts, and no more in all than a history has room for.
pub record CanOpen (config : Config) (programs : List (Vec Command Global)) : Type 0 where
  pub count : length programs ≡ config.cpus
  pub texts : HaveTexts config (programs_of programs)
  pub few : commands_below config.cpus (programs_of programs) ≤ 499999

-- what CPUs tell that have their whole programs before them
abbrev pub opening_views : (ℕ → List Command) → Views
opening_views programs = record {
  taken = λ _. [];
  place = λ _. Outside;
  phase = λ _. world.Between 0;
  program = programs;
  waits = λ _. None;
}
