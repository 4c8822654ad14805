-- Why an execution ends with a fault.
use Rattle.std.specs.Prelude.{List, Result, Ok, Err}
use Rattle.rmm_spec.specs.declared.command.Command.{Command}
use Rattle.rmm_spec.specs.HistoryText.{Config}
use Rattle.rmm_spec.specs.Local.{HeldCell}
use Rattle.commit_tickets.specs.declared.committing.Done.{Done}
use Rattle.commit_tickets.specs.declared.fault.CommitFault.{CommitFault}
use Rattle.commit_tickets.specs.declared.fault.CommitFault.TheVariants as commit
use Rattle.commit_tickets.specs.Commits.{IsOfRun}
use Rattle.commit_tickets.specs.Faults.{HasCause}
use Rattle.commit_tickets.specs.View.{JournalView, TokenView}
use Rattle.monitor.specs.declared.refused.Refused.{Refused}
use Rattle.monitor.specs.declared.refused.Refused.TheVariants.{Full, NoMemory, Unrecorded, Stopped, Disagrees}
use Rattle.monitor.specs.Held.{WereTaken}

-- The fault had its cause in a journal whose entries are a run of this machine, and in cells that were taken for the command.
pub record HadCause (config : Config) (fault : CommitFault) (command : Command) (token : TokenView) : Type 0 where
  pub journal : JournalView
  pub cells : List HeldCell
  pub of_run : IsOfRun config journal
  pub taken : WereTaken config command token cells
  pub cause : HasCause fault config command journal token cells

-- an answer for a fault is given only where the fault had its cause
abbrev pub FaultHadCause : Config → Command → TokenView → Result Done Refused → Type 0
FaultHadCause config command token (Err NoMemory) = HadCause config commit.NoMemory command token
FaultHadCause config command token (Err Disagrees) = HadCause config commit.Disagrees command token
FaultHadCause config command token (Err Full) = Unit {0}
FaultHadCause config command token (Err Stopped) = Unit {0}
FaultHadCause config command token (Err (Unrecorded done)) = Unit {0}
FaultHadCause config command token (Ok done) = Unit {0}
