-- Replies that a machine is offered.
use Rattle.std.specs.Prelude.{ℕ, List}
use Rattle.rmm_spec.specs.declared.command.Command.{Command}
use Rattle.rmm_spec.specs.declared.event.Event.{Event}
use Rattle.rmm_spec.specs.declared.line.Line.{Line}
use Rattle.rmm_spec.specs.Linearization.{IsCalled, IsEntryOf, cpu_named, number_named}
use Rattle.rmm_spec.specs.Run.{JournalEntry}
use Rattle.rmm_spec.specs.State.{State}
use Rattle.rmm_spec.specs.Step.{Step}

-- the machine gives the one commit that the line claims
pub record IsGiven (events : List Event) (line : Line) (called : ℕ) (old new : State) : Type 0 where
  pub command : Command
  pub is_called : IsCalled events called (cpu_named line) (number_named line) command
  pub entry : JournalEntry
  pub is_entry : IsEntryOf events line entry
  pub step : Step old entry.cpu entry.command entry.given new
