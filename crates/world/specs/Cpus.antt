-- What is kept of each CPU, as maps from their numbers.
use Rattle.std.specs.Prelude.{ℕ, Bool, true, false, List, [], Option, Some, None, slice_get, drop}
use Rattle.rmm_spec.specs.declared.command.Command.{Command}
use Rattle.rmm_spec.specs.Shape.{CpuPlace, Outside}
use Rattle.rmm_spec.specs.World as world
use Rattle.command_core.specs.Seen.{place_of}
use Rattle.world.specs.declared.phase.Phase.{Phase}
use Rattle.world.specs.declared.phase.Phase.TheVariants.{Between, Deciding, Decided, GivenUp, Stopped}
use Rattle.world.specs.declared.cpus.Cpu.{Cpu}
use Rattle.world.specs.declared.cpus.Cpus.{Cpus}

abbrev pub phase_in : Phase → world.Phase
phase_in (Between number) = world.Between number
phase_in (Deciding number command learnt) = world.Deciding number command learnt
phase_in (Decided number command reply) = world.Decided number command reply
phase_in GivenUp = world.GivenUp
phase_in Stopped = world.Stopped

-- whether a CPU hasn't ended
abbrev pub is_going : world.Phase → Bool
is_going (world.Between number) = true
is_going (world.Deciding number command learnt) = true
is_going (world.Decided number command given) = true
is_going world.GivenUp = false
is_going world.Stopped = false

-- whether a call is open and not committed
abbrev pub is_deciding : world.Phase → Bool
is_deciding (world.Deciding number command learnt) = true
is_deciding _ = false

-- whether a call is committed and not returned
abbrev pub is_decided : world.Phase → Bool
is_decided (world.Decided number command given) = true
is_decided _ = false

abbrev pub told : {A : Type 0} → (Cpu → A) → A → Option Cpu → A
told tells none None = none
told tells none (Some cpu) = tells cpu

-- what each CPU of a list tells, and what is told of one that isn't there
abbrev pub of_each : {A : Type 0} → (Cpu → A) → A → List Cpu → ℕ → A
of_each tells none list = λ cpu. told tells none (slice_get list cpu)

pub record Views : Type 0 where
  pub taken : ℕ → List ℕ
  pub place : ℕ → CpuPlace
  pub phase : ℕ → world.Phase
  pub program : ℕ → List Command
  pub waits : ℕ → Option ℕ

abbrev pub views_at : List Cpu → Views
views_at list = record {
  taken = of_each (λ c. c.taken.items) [] list;
  place = of_each (λ c. place_of c.place) Outside list;
  phase = of_each (λ c. phase_in c.phase) (world.Between 0) list;
  program = of_each (λ c. drop c.called c.program.items) [] list;
  waits = of_each (λ c. c.waits) None list;
}

unfoldable pub views_of : Cpus → Views
views_of cpus = views_at cpus.list.items
