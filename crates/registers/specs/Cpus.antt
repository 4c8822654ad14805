-- Where each CPU stands at a place.
use Rattle.std.specs.Prelude.{◌≡◌, ℕ, ◌<◌, ◌≤◌, List, Some, slice_get, length, MatchOption}
use Rattle.rmm_spec.specs.declared.call.Call.{Call}
use Rattle.rmm_spec.specs.declared.command.Command.{Command}
use Rattle.rmm_spec.specs.declared.event.Event.{Event}
use Rattle.rmm_spec.specs.declared.reply.Reply.{Reply}
use Rattle.rmm_spec.specs.Call.{call_of}
use Rattle.rmm_spec.specs.Linearization.{IsCalled, IsReturned, IsKnown}
use Rattle.history.specs.Calls.{ArePlacesOf}
use Rattle.verdict_laws.specs.Registers.{IsEntered}
use Rattle.registers.specs.declared.cpus.Cpu.{Cpu}
use Rattle.registers.specs.declared.cpus.Return.{Return}
use Rattle.registers.specs.Calls.{IsCarriedOut}

abbrev pub ReturnedBy : List Event → ℕ → ℕ → ℕ → Type 0
ReturnedBy events place cpu number = (returned : ℕ) × (given : Reply) × IsReturned events returned cpu number given × (returned < place)

-- the number is that of its first call that hasn't returned before the place
pub record IsCpu (events : List Event) (place cpu : ℕ) (one : Cpu) : Type 0 where
  pub is_entered : IsEntered events cpu one.number one.entered
  pub places : MatchOption one.places (¬ IsKnown events cpu one.number) (ArePlacesOf events cpu one.number)
  pub below : (number : ℕ) → number < one.number → ReturnedBy events place cpu number
  pub unreturned : (returned : ℕ) (given : Reply) → IsReturned events returned cpu one.number given → place ≤ returned

pub record AreCpus (events : List Event) (place : ℕ) (cpus : List Cpu) : Type 0 where
  pub size : length cpus ≡ 8
  pub each : (cpu : ℕ) (one : Cpu) → slice_get cpus cpu ≡ Some one → IsCpu events place cpu one

-- the CPU's call of the command returns at the place
pub record IsReturn (events : List Event) (cpus : List Cpu) (at : Return) (command : Command) (given : Reply) : Type 0 where
  pub one : Cpu
  pub is_one : slice_get cpus at.cpu ≡ Some one
  pub numbered : at.number ≡ one.number
  pub entered : at.entered ≡ one.entered
  pub called : IsCalled events at.called at.cpu at.number command
  pub returned : IsReturned events at.place at.cpu at.number given

-- so of some command, with some reply
abbrev pub IsSomeReturn : List Event → List Cpu → Return → Type 0
IsSomeReturn events cpus at = (given : Reply) × (command : Command) × IsReturn events cpus at command given

-- it isn't refused
pub record CarriesOut (events : List Event) (cpus : List Cpu) (at : Return) (made : Call) : Type 0 where
  pub command : Command
  pub given : Reply
  pub returns : IsReturn events cpus at command given
  pub ok : IsCarriedOut given
  pub is_made : made ≡ call_of command
