-- Why a commit is refused.
use Rattle.std.specs.Prelude.{◌≡◌, ℕ, ◌<◌, ◌⊎◌, IsTrue, IsOk, List, length}
use Rattle.rmm_spec.specs.declared.change.Change.{Change}
use Rattle.rmm_spec.specs.declared.command.Command.{Command}
use Rattle.rmm_spec.specs.declared.reply.Reply.{Reply}
use Rattle.rmm_spec.specs.Call.{call_of}
use Rattle.rmm_spec.specs.HistoryText.{Config}
use Rattle.rmm_spec.specs.Local.{HeldCell, Hold, LocalStep}
use Rattle.rmm_spec.specs.Run.{JournalEntry, IsRun}
use Rattle.rmm_spec.specs.State.{State, opening}
use Rattle.rmm_spec.specs.Step.{Step, outcome}
use Rattle.command_core.specs.Changed.{CanChange, CanMake, Decides}
use Rattle.command_core.specs.Rooms as cells
use Rattle.spec_machine.specs.Memory as books
use Rattle.commit_tickets.specs.declared.fault.CommitFault.{CommitFault}
use Rattle.commit_tickets.specs.declared.fault.CommitFault.TheVariants.{NoMemory, Disagrees}
use Rattle.commit_tickets.specs.View.{JournalView, TokenView, hold_with}

-- some change that what is held decides, and that can be made of it, makes a table
pub record DecidesTable (config : Config) (cpu : ℕ) (command : Command) (hold : Hold) : Type 0 where
  pub given : Reply
  pub change : Change
  pub decides : Decides config cpu command hold given change
  pub can : CanChange cpu hold change
  pub makes : CanMake hold change
  pub makes_table : IsTrue (cells.makes_table change)

-- the command makes a table in the machine, which accepts it after the journal's entries
pub record AcceptsTable (cpu : ℕ) (command : Command) (config : Config) (entries : List JournalEntry) : Type 0 where
  pub last : State
  pub run : IsRun (opening config) entries last
  pub accepted : IsOk (outcome last cpu (call_of command))
  pub makes_table : IsTrue (books.makes_table command.function)

-- A table is made: among the cells, or in the machine of the books.
abbrev pub MakesTable : Config → Command → JournalView → TokenView → List HeldCell → Type 0
MakesTable config command journal token cells =
    DecidesTable config token.cpu command (hold_with journal token cells) ⊎ AcceptsTable token.cpu command journal.config journal.entries

-- Some local step on what is held has a reply that the machine doesn't give after the journal's entries.
pub record Disagree (config : Config) (cpu : ℕ) (command : Command) (hold : Hold) (entries : List JournalEntry) : Type 0 where
  pub given : Reply
  pub new : Hold
  pub step : LocalStep config cpu command given hold new
  pub refused : (last next : State) → IsRun (opening config) entries last → Step last cpu command given next → ⊥

-- Memory is refused only where the journal or the token has no room for one commit more, or a table is made. They
-- disagree only where what is held does with the books, or where the journal has fewer entries than the token was told of.
abbrev pub HasCause : CommitFault → Config → Command → JournalView → TokenView → List HeldCell → Type 0
HasCause NoMemory config command journal token cells =
    (journal.room ≡ 0) ⊎ ((token.room ≡ 0) ⊎ MakesTable config command journal token cells)
HasCause Disagrees config command journal token cells =
    Disagree config token.cpu command (hold_with journal token cells) journal.entries ⊎ (length journal.entries < token.seen)
