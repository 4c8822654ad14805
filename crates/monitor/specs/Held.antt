-- What an execution does to the cells that it holds.
use Rattle.std.specs.Prelude.{◌≡◌, ℕ, IsTrue, List, Option, Result, Ok, Err}
use Rattle.rmm_spec.specs.declared.command.Command.{Command}
use Rattle.rmm_spec.specs.declared.reply.Reply.{Reply}
use Rattle.rmm_spec.specs.Call.{call_of}
use Rattle.rmm_spec.specs.HistoryText.{Config}
use Rattle.rmm_spec.specs.Local.{HeldCell, LocalStep}
use Rattle.rmm_spec.specs.Shape.{Side, CpuPlace}
use Rattle.command_core.specs.Changed.{hold_of}
use Rattle.command_core.specs.Seen.{place_of}
use Rattle.command_core.specs.Settled.{is_settled}
use Rattle.granule_lock.specs.Locked.{AreGranules, IsReached, locking}
use Rattle.commit_tickets.specs.declared.committing.Done.{Done}
use Rattle.commit_tickets.specs.declared.fault.CommitFault.{CommitFault}
use Rattle.commit_tickets.specs.declared.fault.CommitFault.TheVariants as commit
use Rattle.commit_tickets.specs.View.{TokenView}
use Rattle.monitor.specs.declared.refused.Refused.{Refused}
use Rattle.monitor.specs.declared.refused.Refused.TheVariants.{Full, NoMemory, Unrecorded, Stopped, Disagrees}

-- The cells are of this machine's granules, were taken as the plan of the token's command says, and settle it.
pub record WereTaken (config : Config) (command : Command) (token : TokenView) (cells : List HeldCell) : Type 0 where
  pub granules : AreGranules config.granules cells
  pub settled : IsTrue (is_settled config (call_of command) (place_of token.place) cells)
  pub learnt : Option ℕ
  pub reached : IsReached config (call_of command) (place_of token.place) (locking cells learnt)

-- With some side table, the journal's then, the held cells and the token's place make a local step with this reply, to these cells
-- and this place.
pub record MakesStep (config : Config) (command : Command) (given : Reply)
    (token : TokenView) (place : CpuPlace) (cells new_cells : List HeldCell) : Type 0 where
  pub side : Side
  pub new_side : Side
  pub step : LocalStep config token.cpu command given (hold_of cells side (place_of token.place)) (hold_of new_cells new_side place)

-- a commit makes the step with its reply, and a fault leaves the cells as they were taken
abbrev pub Makes : Config → Command → TokenView → CpuPlace → List HeldCell → List HeldCell → Result Done CommitFault → Type 0
Makes config command token place cells new_cells (Ok done) = MakesStep config command done.reply token place cells new_cells
Makes config command token place cells new_cells (Err fault) = new_cells ≡ cells

-- Cells were taken for the command, and these are what the commit made of them.
pub record WereHeld (config : Config) (command : Command) (token : TokenView) (place : CpuPlace) (new_cells : List HeldCell)
    (result : Result Done CommitFault) : Type 0 where
  pub cells : List HeldCell
  pub taken : WereTaken config command token cells
  pub makes : Makes config command token place cells new_cells result

-- what each answer leaves of the cells that were held, and of the token's place; before a call none are taken
abbrev pub LeavesHeld : Config → Command → TokenView → CpuPlace → Result Done Refused → Type 0
LeavesHeld config command token place (Ok done) = (cells : List HeldCell) × WereHeld config command token place cells (Ok done)
LeavesHeld config command token place (Err (Unrecorded done)) = (cells : List HeldCell) × WereHeld config command token place cells (Ok done)
LeavesHeld config command token place (Err NoMemory) = (cells : List HeldCell) × WereHeld config command token place cells (Err commit.NoMemory)
LeavesHeld config command token place (Err Disagrees) = (cells : List HeldCell) × WereHeld config command token place cells (Err commit.Disagrees)
LeavesHeld config command token place (Err Full) = Unit {0}
LeavesHeld config command token place (Err Stopped) = Unit {0}
